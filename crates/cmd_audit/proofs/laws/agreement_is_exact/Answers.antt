use Rattle.cmd_audit.proofs.Audited.{agrees_exactly}
use Rattle.cmd_audit.proofs.laws.agreement_is_exact.Goals as goal

pub returns : goal.returns
returns c =
    agrees_exactly (record {
      stands = c.entries_stand_for.ensures;
      some = c.the_least_gap_is_found.ensures.some;
      none = c.the_least_gap_is_found.ensures.none;
    }) c.one_least_gap.ensures.none
