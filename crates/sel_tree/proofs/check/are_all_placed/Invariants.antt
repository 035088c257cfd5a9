use Rattle.sel_tree.specs.inner.Trees.{AreAllPlaced}
use Rattle.sel_tree.proofs.check.are_all_placed.Given as goal

-- The boxes so far have their nodes.
abbrev pub invariant-loop-index : goal.invariant-loop-index
invariant-loop-index l = AreAllPlaced l.regions l.four l.six l.index
