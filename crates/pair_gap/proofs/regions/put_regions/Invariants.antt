use Rattle.std.proofs.Common.{◌≡◌, ◌++◌, ◌-◌, drop, length}
use Rattle.pair_gap.specs.GapRegions.{regions_with}
use Rattle.pair_gap.proofs.regions.put_regions.Given as goal

-- What was put, and then what the peer's entries that are left give, is what all give.
abbrev pub invariant-loop-index : goal.invariant-loop-index
invariant-loop-index l = l.list ++ regions_with l.entry (drop l.from l.peer) ≡ l.initial.list ++ regions_with l.entry l.peer

abbrev pub decreases-loop-index : goal.decreases-loop-index
decreases-loop-index l = length l.peer - l.from
