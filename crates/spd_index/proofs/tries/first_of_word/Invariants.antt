use Rattle.spd_index.specs.inner.Missed.{AreInWord}
use Rattle.spd_index.proofs.tries.first_of_word.Given as goal

abbrev pub invariant-loop-left : goal.invariant-loop-left
invariant-loop-left g l = AreInWord l.direction l.point (g.L.Lines.lines l.lines) l.word l.left

abbrev pub decreases-loop-left : goal.decreases-loop-left
decreases-loop-left g l = l.left
