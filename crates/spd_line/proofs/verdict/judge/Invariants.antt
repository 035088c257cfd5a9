use Rattle.spd_line.proofs.Places.{NoneBefore}
use Rattle.spd_line.proofs.verdict.judge.Given as goal

abbrev pub invariant-loop-place : goal.invariant-loop-place
invariant-loop-place g l = NoneBefore l.direction l.point (g.L.Lines.lines l.lines) l.place
