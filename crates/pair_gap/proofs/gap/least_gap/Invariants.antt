use Rattle.std.proofs.Common.{◌≡◌, None, drop}
use Rattle.pair_gap.specs.LeastGap.{least_from}
use Rattle.pair_gap.proofs.gap.least_gap.Given as goal

-- The least so far, with what the entries that are left give, is the least of all.
abbrev pub invariant-loop-entry : goal.invariant-loop-entry
invariant-loop-entry l = least_from l.best (drop l.entry-index l.a_outbound) l.b_inbound ≡ least_from None l.a_outbound l.b_inbound
