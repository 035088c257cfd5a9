-- The rule by which a certificate is made: which node stands over a box.
use Rattle.std.specs.Prelude.{ℕ, ◌+◌, ◌-◌, nat_lt, List, [], ◌∷◌, ◌++◌, map, Option, Some, None, if◌then◌else◌}
use Rattle.sel_region.specs.Interval.{Range, high_of, range_within}
use Rattle.sel_box.specs.declared.any_box.AnyBox.{AnyBox}
use Rattle.sel_box.specs.declared.any_box.AxisName.{AxisName}
use Rattle.sel_box.specs.declared.any_box.AxisName.TheVariants.{Local, Remote, Protocol, LocalField, RemoteField}
use Rattle.sel_box.specs.Boxes.{range_at}
use Rattle.sel_box.specs.BoxRegion.{box_within}
use Rattle.sel_box.specs.SomePoint.{has_packet}
use Rattle.sel_tree.specs.FirstMet.{meets}
use Rattle.spd_line.specs.declared.line.LineParts.{LineParts}
use Rattle.spd_line.specs.declared.line_boxes.LineBox.{LineBox}
use Rattle.cert_text.specs.declared.node.Node.{Node}
use Rattle.cert_text.specs.Rows.{Row, a_rows, b_rows}
use Rattle.cert_make.specs.declared.placed.PlacedBox.{PlacedBox}

-- The boxes of a row, each with the place of the row; and those of some rows one after another, the first at this place.
abbrev pub placed_in : ℕ → Row → List PlacedBox
placed_in place row = map (λ (box : LineBox). record { region = box.region; line = place }) row

abbrev pub placed : ℕ → List Row → List PlacedBox
placed place [] = []
placed place (row ∷ rows) = placed_in place row ++ placed (place + 1) rows

-- The first of some boxes that has a point of the box.
abbrev pub first_met : AnyBox → List PlacedBox → Option PlacedBox
first_met b [] = None
first_met b (box ∷ boxes) = if meets b box.region then Some box else first_met b boxes

-- Where a range doesn't lie in another, the number behind which it is cut: the last before the other where it begins
-- before, and else the other's last.
abbrev pub cut_value : Range → Range → Option ℕ
cut_value range other =
    if range_within range other then None
    else Some (if nat_lt range.low other.low then other.low - 1 else high_of other)

-- The five axes, in the order in which they are tried: source, destination, protocol, source and destination field.
abbrev pub axes : List AxisName
axes = Local ∷ Remote ∷ Protocol ∷ LocalField ∷ RemoteField ∷ []

-- A split on an axis where there is a number to cut behind, and else another node.
abbrev pub split_or : AxisName → Option ℕ → Node → Node
split_or axis None later = later
split_or axis (Some value) later = Node.Split axis value

-- The split of a box on the first of some axes on which it doesn't lie in another; `void` where it lies in it on all.
abbrev pub split_along : AnyBox → AnyBox → List AxisName → Node
split_along b other [] = Node.Void
split_along b other (axis ∷ rest) = split_or axis (cut_value (range_at axis b) (range_at axis other)) (split_along b other rest)

-- The node over a box that a box of A and one of B are the first to meet: the leaf of their lines where it lies in both,
-- and else its split by A's where it doesn't lie in that one, or by B's.
abbrev pub node_between : AnyBox → PlacedBox → PlacedBox → Node
node_between b ours theirs =
    if box_within b ours.region
    then (if box_within b theirs.region then Node.Leaf ours.line theirs.line else split_along b theirs.region axes)
    else split_along b ours.region axes

abbrev pub node_met : AnyBox → Option PlacedBox → Option PlacedBox → Node
node_met b (Some ours) (Some theirs) = node_between b ours theirs
node_met b _ _ = Node.Void

-- The node over a box, by the boxes of A and those of B: `void` where the box has no packet, and else that of the first
-- box of either that has a point of it.
abbrev pub node_for : List PlacedBox → List PlacedBox → AnyBox → Node
node_for ours theirs b = if has_packet b then node_met b (first_met b ours) (first_met b theirs) else Node.Void

-- The same of two policies, of A from which packets go out, and of B at which they come in. Each line's boxes come in
-- order, and those of `final` last.
abbrev pub made_node : List LineParts → List LineParts → AnyBox → Node
made_node a b = node_for (placed 1 (a_rows a)) (placed 1 (b_rows b))
