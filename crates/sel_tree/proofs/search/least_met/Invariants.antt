use Rattle.std.proofs.Common.{◌-◌, length, min}
use Rattle.std.specs.List.{AllWithin}
use Rattle.sel_tree.specs.inner.Trees.{IsMetOrLen, IsNoLess}
use Rattle.sel_tree.proofs.search.least_met.Given as goal

-- The best index so far is one that is looked for, and none of the nodes so far has a lesser one.
abbrev pub invariant-loop-at : goal.invariant-loop-at
invariant-loop-at g l = record {
  met : IsMetOrLen l.regions l.from l.region l.best;
  least : AllWithin (λ node. IsNoLess l.regions l.from l.region l.best node.entry) l.nodes 0 (min l.at (length l.nodes));
}

abbrev pub decreases-loop-at : goal.decreases-loop-at
decreases-loop-at g l = length l.nodes - l.at
