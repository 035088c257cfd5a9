use Rattle.std.proofs.Common.{rules}
use Rattle.pair_io.specs.Gains.{Gains, GainsPrefix}
use Rattle.pair_io.proofs.Gains.{GainsPrefix-first}
use Rattle.audit_frame.specs.Answer.{Answer, text_of}
use Rattle.audit_frame.proofs.Lines.{IsSent-line}
use Rattle.cmd_judge.specs.declared.command.JudgeEnd.{JudgeEnd}
use Rattle.cmd_judge.specs.Judge.{packet_line, traced}
use Rattle.cmd_judge.proofs.tracing.judge_event.Goals as goal

pub returns-in_err-write_line-in-Some-Pkt-clause-prefix : goal.returns-in_err-write_line-in-Some-Pkt-clause-prefix
returns-in_err-write_line-in-Some-Pkt-clause-prefix g c =
    let line = packet_line c.args.policy.now.lines.now (traced c.args.number c.in-Some-Pkt.direction c.in-Some-Pkt.packet) in
    let prefix : GainsPrefix (g.O.Sink.told c.args.out.now) (g.O.Sink.told c.write_line.new.out) line =
    rw c.verdict_line-line.ensures at c.in_err-write_line-in-Some-Pkt.ensures.prefix in
    let ends = λ (others : Answer JudgeEnd). GainsPrefix-first {first = line} (text_of others.lines) prefix in
    search (rules, ends)

pub returns-in_ok-write_line-in-Some-Pkt-clause-judged : goal.returns-in_ok-write_line-in-Some-Pkt-clause-judged
returns-in_ok-write_line-in-Some-Pkt-clause-judged g c =
    let line = packet_line c.args.policy.now.lines.now (traced c.args.number c.in-Some-Pkt.direction c.in-Some-Pkt.packet) in
    let written : Gains (g.O.Sink.told c.args.out.now) (g.O.Sink.told c.write_line.new.out) line =
    rw c.verdict_line-line.ensures at c.in_ok-write_line-in-Some-Pkt.ensures.written in
    let sent = λ (others : Answer JudgeEnd). IsSent-line others line (g.O.Sink.told c.args.out.now) (g.O.Sink.told c.write_line.new.out) written in
    search (rules, sent)
