-- What is left to write, by the boxes of both gateways.
use Rattle.std.specs.Prelude.{ℕ, Bool, List}
use Rattle.std.specs.List.{concat}
use Rattle.sel_box.specs.declared.any_box.AnyBox.{AnyBox}
use Rattle.cert_text.specs.declared.node.Node.{Node}
use Rattle.spd_line.specs.declared.line.LineParts.{LineParts}
use Rattle.cert_text.specs.Rows.{a_rows, b_rows}
use Rattle.cert_text.specs.Valid.{holds, valid}
use Rattle.cert_rows.specs.declared.gateway.Gateway.TheVariants.{A, B}
use Rattle.cert_rows.specs.declared.side.Side.{Side}
use Rattle.cert_rows.specs.Gathered.{AreGathered, rows_at}
use Rattle.cert_make.specs.declared.placed.PlacedBox.{PlacedBox}
use Rattle.cert_make.specs.Rule.{node_for}
use Rattle.cert_make.specs.Text.{node_lines}
use Rattle.cert_make.specs.Trees.{trees_of}
use Rattle.cert_make.specs.inner.PlacedBy.{placed_by}

-- The boxes of a gateway, each with the place of its line.
abbrev pub placed_of : Side → List PlacedBox
placed_of side = placed_by side.regions side.marks.items

-- The node over a box by both.
abbrev pub node_by : Side → Side → AnyBox → Node
node_by ours theirs = node_for (placed_of ours) (placed_of theirs)

-- The text of the trees over some boxes.
abbrev pub trees_text : (AnyBox → Node) → List AnyBox → List ℕ
trees_text rule boxes = concat (node_lines (trees_of rule boxes) boxes)

-- The boxes of both gateways are those of two policies.
pub record AreSides (a b : List LineParts) (ours theirs : Side) : Type 0 where
  pub ours_are : AreGathered (rows_at A a) ours.regions ours.marks.items
  pub theirs_are : AreGathered (rows_at B b) theirs.regions theirs.marks.items

-- The nodes over some boxes hold of two policies.
abbrev pub are_valid : List LineParts → List LineParts → Side → Side → List AnyBox → Bool
are_valid a b ours theirs boxes = valid (holds (a_rows a) (b_rows b)) (trees_of (node_by ours theirs) boxes) boxes
