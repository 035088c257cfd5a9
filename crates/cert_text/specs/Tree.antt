-- The trees of a certificate, and when one is valid over a box.
use Rattle.std.specs.Prelude.{ℕ, Bool, false, not, ◌&&◌, List, [], ◌∷◌, ◌++◌, Option, Some, None}
use Rattle.sel_box.specs.declared.any_box.AnyBox.{AnyBox}
use Rattle.sel_box.specs.declared.any_box.AxisName.{AxisName}
use Rattle.sel_box.specs.SomePoint.{has_packet}
use Rattle.cert_text.specs.declared.node.Node.{Node}
use Rattle.cert_text.specs.Rows.{Row, decided_at}
use Rattle.cert_text.specs.Split.{split_box}
use Rattle.cert_text.specs.Valid.{both_same}

-- A tree over a box: the box is cut, and there is a tree over either part; or two lines decide it; or it has no packet.
pub data Tree : Type 0 where
  split : AxisName → ℕ → Tree → Tree → Tree
  leaf : ℕ → ℕ → Tree
  void : Tree

-- The nodes of a tree, in the order in which they are written: the tree of the lower part before that of the rest.
abbrev pub preorder : Tree → List Node
preorder (split axis value low high) = Node.Split axis value ∷ (preorder low ++ preorder high)
preorder (leaf i j) = Node.Leaf i j ∷ []
preorder void = Node.Void ∷ []

-- The first holds of the lower part and the second of the rest, where there are such parts.
abbrev pub on_parts : (AnyBox → Bool) → (AnyBox → Bool) → Option (AnyBox × AnyBox) → Bool
on_parts low high None = false
on_parts low high (Some parts) = low parts.0 && high parts.1

-- The tree is valid over a box, by the rows of A and of B: each split cuts its box, the lines of each leaf decide its
-- box and judge it alike, and no packet lies in a box without a line.
abbrev pub keeps : List Row → List Row → Tree → AnyBox → Bool
keeps a b (split axis value low high) box = on_parts (keeps a b low) (keeps a b high) (split_box axis value box)
keeps a b (leaf i j) box = both_same (decided_at a i box) (decided_at b j box)
keeps a b void box = not (has_packet box)
