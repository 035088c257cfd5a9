-- The trees that a rule makes.
use Rattle.std.specs.Prelude.{ℕ, zero, suc, ◌+◌, List, [], ◌∷◌}
use Rattle.std.specs.List.{flat_map}
use Rattle.sel_box.specs.declared.any_box.AnyBox.{AnyBox}
use Rattle.sel_box.specs.Boxes.{Ranges, ranges_of}
use Rattle.spd_line.specs.declared.line.LineParts.{LineParts}
use Rattle.cert_text.specs.declared.node.Node.{Node}
use Rattle.cert_text.specs.Valid.{parts, whole_boxes}
use Rattle.cert_make.specs.Rule.{made_node}

-- The nodes of the tree over a box in preorder: that of the rule, and behind it those over the parts into which it splits
-- the box, so many levels deep at most.
abbrev pub nodes_within : (AnyBox → Node) → ℕ → AnyBox → List Node
nodes_within rule zero b = []
nodes_within rule (suc levels) b = rule b ∷ flat_map (nodes_within rule levels) (parts (rule b) b)

-- How many numbers a box has on its axes above the least ones. A part of a box has fewer, so no tree over the box has
-- more levels of splits.
abbrev pub ranges_size : Ranges → ℕ
ranges_size r = r.first.more + (r.second.first.more + (r.second.second.first.more
    + (r.second.second.second.first.more + r.second.second.second.second.more)))

abbrev pub size_of : AnyBox → ℕ
size_of b = ranges_size (ranges_of b)

-- The tree over a box; and those over some boxes, one after another.
abbrev pub tree_of : (AnyBox → Node) → AnyBox → List Node
tree_of rule b = nodes_within rule (suc (size_of b)) b

unfoldable pub trees_of : (AnyBox → Node) → List AnyBox → List Node
trees_of rule boxes = flat_map (tree_of rule) boxes

-- The nodes of the certificate that is made of two policies: the trees over all of IPv4 and all of IPv6.
abbrev pub made_nodes : List LineParts → List LineParts → List Node
made_nodes a b = trees_of (made_node a b) whole_boxes
