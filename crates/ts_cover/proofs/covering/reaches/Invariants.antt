use Rattle.std.proofs.Common.{◌≡◌, ◌-◌, drop, length}
use Rattle.ts_cover.specs.RealParts.{reaches}
use Rattle.ts_cover.proofs.covering.reaches.Given as goal

-- The region reaches the boxes from the index on where it reaches all.
abbrev pub invariant-loop-index : goal.invariant-loop-index
invariant-loop-index l = reaches (drop l.from l.boxes) l.region ≡ reaches l.boxes l.region

abbrev pub decreases-loop-index : goal.decreases-loop-index
decreases-loop-index l = length l.boxes - l.from
