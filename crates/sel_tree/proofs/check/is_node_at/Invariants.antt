use Rattle.std.specs.List.{AllWithin}
use Rattle.sel_tree.specs.inner.Trees.{Covers}
use Rattle.sel_tree.proofs.check.is_node_at.Given as goal

-- The boxes of the nodes so far are covered.
abbrev pub invariant-loop-k : goal.invariant-loop-k
invariant-loop-k g l = AllWithin (λ below. Covers g.R.OfFamily.region l.regions l.node below.entry) l.nodes l.place l.k
