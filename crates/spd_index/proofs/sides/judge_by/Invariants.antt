use Rattle.std.proofs.Common.{◌*◌}
use Rattle.spd_index.specs.inner.Missed.{IsMissed}
use Rattle.spd_index.proofs.sides.judge_by.Given as goal

abbrev pub invariant-loop-word : goal.invariant-loop-word
invariant-loop-word g l = IsMissed l.direction l.point (g.L.Lines.lines l.lines) (64 * l.word)
