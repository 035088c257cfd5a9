use Rattle.std.proofs.Common.{◌+◌, drop}
use Rattle.std.proofs.lemmas.Result.{err_from_is_err_and}
use Rattle.trace_text.specs.Trace.{events_of}
use Rattle.cmd_replay.specs.Replay.{trace_answer}
use Rattle.cmd_replay.proofs.tracing.replay_line.Goals as goal

pub returns-in_err-replay_event-in-Ok-clause-stopped : goal.returns-in_err-replay_event-in-Ok-clause-stopped
returns-in_err-replay_event-in-Ok-clause-stopped g c =
    let p = err_from_is_err_and c.from_residual.result c.from_residual.ensures.1 in
    let stopped = c.in_err-replay_event-in-Ok.ensures.stopped in
    rw (p.1, p.2) (λ word. rw c.in-Ok.ensures.event
    (stopped word (trace_answer word (c.args.number + 1) (events_of (drop c.in-Ok.found.taken c.args.trace.now)))))
