use Rattle.cmd_judge.proofs.tracing.judge_line.Goals as goal

pub returns-in-Err-2-clause-judged : goal.returns-in-Err-2-clause-judged
returns-in-Err-2-clause-judged g c =
    let judged = rw c.in-Err-2.is at c.in_ok-judge_event-in-Ok.ensures.judged in
    rw c.in-Ok.ensures.event (judged _)
