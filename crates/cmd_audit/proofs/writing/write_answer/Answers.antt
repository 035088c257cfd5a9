use Rattle.std.proofs.Common.{Option, subst}
use Rattle.audit_frame.specs.Ends.{Writes}
use Rattle.pair_gap.specs.declared.gap.Gap.{Gap}
use Rattle.cmd_audit.specs.Audit.{by_gap}
use Rattle.cmd_audit.proofs.writing.write_answer.Goals as goal

pub returns-clause-writes : goal.returns-clause-writes
returns-clause-writes g c =
    subst (λ (found : Option Gap). Writes (by_gap c.args.a.now c.args.b.now found) (g.O.Sink.told c.args.out.now)
    (g.O.Sink.told c.write_found.new.out) c.write_found.result)
    c.in_ok-gap.ensures.gap c.write_found.ensures.writes
