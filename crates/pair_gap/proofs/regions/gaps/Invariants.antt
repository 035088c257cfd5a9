use Rattle.std.proofs.Common.{◌≡◌, ◌++◌, drop}
use Rattle.pair_gap.specs.GapRegions.{gap_regions}
use Rattle.pair_gap.proofs.regions.gaps.Given as goal

-- What was put, and then what the entries that are left give, is what all give.
abbrev pub invariant-loop-entry : goal.invariant-loop-entry
invariant-loop-entry l = l.list ++ gap_regions (drop l.entry-index l.a_outbound) l.b_inbound ≡ gap_regions l.a_outbound l.b_inbound
