use Rattle.std.proofs.Common.{◌≡◌}
use Rattle.ts_cover.specs.RealParts.{leaves}
use Rattle.ts_narrow.specs.inner.Rests.{some_left, work}
use Rattle.ts_narrow.proofs.leaving.leaves_some.Given as goal

-- A real point of the boxes is left where one is left of the pieces that wait.
abbrev pub invariant-loop-rest : goal.invariant-loop-rest
invariant-loop-rest l = some_left l.others l.rests.items ≡ leaves l.boxes l.others

abbrev pub decreases-loop-rest : goal.decreases-loop-rest
decreases-loop-rest l = work l.others l.rests.items
