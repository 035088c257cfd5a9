use Rattle.std.proofs.Common.{◌≡◌, ◌++◌, drop, map, take}
use Rattle.spd_lanes.specs.inner.Kept.{unfresh}
use Rattle.spd_lanes.proofs.shared.stale.make_stale.Given as goal

-- The lanes before are not fresh, and the others as they were.
abbrev pub invariant-loop-lane : goal.invariant-loop-lane
invariant-loop-lane l = l.lanes ≡ map unfresh (take l.lane-index l.initial.lanes) ++ drop l.lane-index l.initial.lanes
