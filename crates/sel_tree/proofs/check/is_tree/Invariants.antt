use Rattle.sel_tree.specs.inner.Trees.{AreNodes}
use Rattle.sel_tree.proofs.check.is_tree.Given as goal

-- The nodes so far cover what is below them.
abbrev pub invariant-loop-place : goal.invariant-loop-place
invariant-loop-place g l = AreNodes g.R.OfFamily.region l.regions l.nodes l.place
