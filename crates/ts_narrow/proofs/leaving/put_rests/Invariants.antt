use Rattle.std.proofs.Common.{◌≡◌, ◌++◌, drop}
use Rattle.ts_narrow.specs.inner.Rests.{rests_at}
use Rattle.ts_narrow.proofs.leaving.put_rests.Given as goal

-- What was put, and then the pieces that are left, are all.
abbrev pub invariant-loop-piece : goal.invariant-loop-piece
invariant-loop-piece l = l.rests.items ++ rests_at l.from (drop l.piece-index l.pieces) ≡ l.initial.rests.items ++ rests_at l.from l.pieces
