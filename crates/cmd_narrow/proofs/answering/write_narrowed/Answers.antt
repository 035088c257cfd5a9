use Rattle.std.proofs.Common.{subst}
use Rattle.audit_frame.specs.Ends.{Writes}
use Rattle.ts_narrow.specs.declared.narrowed.Narrowed.{Narrowed}
use Rattle.cmd_narrow.specs.Narrow.{by_narrowed}
use Rattle.cmd_narrow.proofs.answering.write_narrowed.Goals as goal

pub returns-clause-writes : goal.returns-clause-writes
returns-clause-writes g c =
    subst (λ (answer : Narrowed). Writes (by_narrowed c.args.lines.now answer) (g.O.Sink.told c.args.out.now)
    (g.O.Sink.told c.write_found.new.out) c.write_found.result)
    c.in_ok-answer.ensures.answer c.write_found.ensures.writes
