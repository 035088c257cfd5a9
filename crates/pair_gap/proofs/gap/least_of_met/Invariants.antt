use Rattle.std.proofs.Common.{◌≡◌, ◌-◌, drop, length}
use Rattle.pair_gap.specs.LeastGap.{least_with}
use Rattle.pair_gap.proofs.gap.least_of_met.Given as goal

-- The least so far, with what the peer's entries that are left give, is the least of all.
abbrev pub invariant-loop-index : goal.invariant-loop-index
invariant-loop-index l = least_with l.best l.entry (drop l.from l.peer) ≡ least_with l.initial.best l.entry l.peer

abbrev pub decreases-loop-index : goal.decreases-loop-index
decreases-loop-index l = length l.peer - l.from
