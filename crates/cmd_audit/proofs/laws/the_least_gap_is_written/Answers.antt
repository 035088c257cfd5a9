use Rattle.cmd_audit.proofs.Audited.{audited}
use Rattle.cmd_audit.proofs.laws.the_least_gap_is_written.Goals as goal

pub returns : goal.returns
returns c =
    audited (record {
      stands = c.entries_stand_for.ensures;
      some = c.the_least_gap_is_found.ensures.some;
      none = c.the_least_gap_is_found.ensures.none;
    }) c.made_is_accepted.ensures c.policies_have_few_lines.ensures
