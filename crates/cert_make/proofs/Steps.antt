-- What is left to write before a node, and behind it.
use Rattle.std.proofs.Common.{◌≡◌, ◌<◌, Bool, true, ◌&&◌, List, [], ◌∷◌, ◌++◌, length, sym, ap, ap₂, ◌∙◌, arith}
use Rattle.std.specs.List.{concat}
use Rattle.sel_box.specs.declared.any_box.AnyBox.{AnyBox}
use Rattle.sel_box.specs.Boxes.{family_of}
use Rattle.sel_text.specs.declared.family.Family.{Family}
use Rattle.cert_text.specs.declared.node.Node.{Node}
use Rattle.cert_text.specs.NodeText.{node_text}
use Rattle.spd_line.specs.declared.line.LineParts.{LineParts}
use Rattle.cert_text.specs.Valid.{parts, valid, whole_boxes}
use Rattle.cert_rows.specs.declared.gateway.Gateway.TheVariants.{A, B}
use Rattle.cert_rows.specs.Gathered.{rows_at}
use Rattle.cert_rows.proofs.Gathers.{rows_at-a, rows_at-b}
use Rattle.cert_rows.specs.declared.side.Side.{Side}
use Rattle.cert_make.specs.Rule.{made_node, node_for, placed}
use Rattle.cert_make.specs.Text.{node_lines, nodes_text}
use Rattle.cert_make.specs.Trees.{made_nodes, trees_of}
use Rattle.cert_make.specs.inner.Sides.{AreSides, node_by, placed_of, trees_text}
use Rattle.cert_make.proofs.Gathering.{gathered-placed}
use Rattle.cert_make.proofs.Smaller.{trees_of-none, trees_of-step}

-- The nodes by the boxes that were gathered of two policies are those that are made of them, and so is their text.

pub made_rule : (a b : List LineParts) (ours theirs : Side) → AreSides a b ours theirs → node_by ours theirs ≡ made_node a b
made_rule a b ours theirs are =
    ap₂ node_for
    (gathered-placed (rows_at A a) ours.regions ours.marks.items are.ours_are ∙ ap (placed 1) (rows_at-a a))
    (gathered-placed (rows_at B b) theirs.regions theirs.marks.items are.theirs_are ∙ ap (placed 1) (rows_at-b b))

pub made_text : (a b : List LineParts) (ours theirs : Side) → AreSides a b ours theirs
    → trees_text (node_by ours theirs) whole_boxes ≡ nodes_text (made_nodes a b)
made_text a b ours theirs are = ap (λ (rule : AnyBox → Node). trees_text rule whole_boxes) (made_rule a b ours theirs are)

module _ (ours theirs : Side) where
  -- Nothing is left where no box is.
  pub left_none : (todo : List AnyBox) → todo ≡ [] → trees_text (node_by ours theirs) todo ≡ []
  left_none todo is =
      ap (trees_text (node_by ours theirs)) is
      ∙ ap (λ (nodes : List Node). concat (node_lines nodes [])) (trees_of-none (placed_of ours) (placed_of theirs))

  pub left_done : (rule : Node → AnyBox → Bool) (todo : List AnyBox) → todo ≡ []
      → valid rule (trees_of (node_by ours theirs) todo) todo ≡ true
  left_done rule todo is =
      ap (λ (left : List AnyBox). valid rule (trees_of (node_by ours theirs) left) left) is
      ∙ ap (λ (nodes : List Node). valid rule nodes []) (trees_of-none (placed_of ours) (placed_of theirs))

  module _ (node : Node) (b : AnyBox) (todo boxes boxes' : List AnyBox)
      (todo_is : todo ≡ b ∷ boxes) (node_is : node ≡ node_by ours theirs b) (boxes_is : boxes' ≡ parts node b ++ boxes)
    where
      nodes_left : trees_of (node_by ours theirs) todo ≡ node ∷ trees_of (node_by ours theirs) boxes'
      nodes_left =
          ap (trees_of (node_by ours theirs)) todo_is
          ∙ trees_of-step (placed_of ours) (placed_of theirs) b boxes
          ∙ ap (λ (n : Node). n ∷ trees_of (node_by ours theirs) (parts n b ++ boxes)) (sym node_is)
          ∙ ap (λ (left : List AnyBox). node ∷ trees_of (node_by ours theirs) left) (sym boxes_is)

      -- The text that is left begins with the line of the first box's node.
      pub left_begins : (family : Family) → family ≡ family_of b
          → trees_text (node_by ours theirs) todo ≡ node_text family node ++ trees_text (node_by ours theirs) boxes'
      left_begins family family_is =
          ap₂ (λ (nodes : List Node) (left : List AnyBox). concat (node_lines nodes left)) nodes_left todo_is
          ∙ ap₂ (λ (f : Family) (left : List AnyBox). node_text f node ++ concat (node_lines (trees_of (node_by ours theirs) boxes') left))
          (sym family_is) (sym boxes_is)

      -- The nodes that are left hold where that of the first box does and those behind it.
      pub left_valid : (rule : Node → AnyBox → Bool) → valid rule (trees_of (node_by ours theirs) todo) todo
          ≡ (rule node b && valid rule (trees_of (node_by ours theirs) boxes') boxes')
      left_valid rule =
          ap₂ (valid rule) nodes_left todo_is
          ∙ ap (λ (left : List AnyBox). rule node b && valid rule (trees_of (node_by ours theirs) boxes') left) (sym boxes_is)

      -- And fewer nodes are left behind it.
      pub left_fewer : length (trees_of (node_by ours theirs) boxes') < length (trees_of (node_by ours theirs) todo)
      left_fewer = omega (arith, ap length nodes_left)
