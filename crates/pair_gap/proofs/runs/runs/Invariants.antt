use Rattle.pair_gap.proofs.Alike.{SoFar}
use Rattle.pair_gap.proofs.runs.runs.Given as goal

abbrev pub invariant-loop-index : goal.invariant-loop-index
invariant-loop-index l = SoFar l.entries l.ends l.index l.end
