-- Where two policies agree, the nodes that the rule makes are valid.
use Rattle.std.proofs.Common.{◌≡◌, true, not, List, Option, Some, None, sym, ap, ap₂, ◌∙◌}
use Rattle.std.proofs.lemmas.Bool.{and_parts}
use Rattle.sel_box.specs.declared.any_box.AnyBox.{AnyBox}
use Rattle.sel_box.specs.declared.packet.Direction.TheVariants.{Outbound, Inbound}
use Rattle.sel_box.specs.Boxes.{box_has}
use Rattle.sel_box.specs.BoxRegion.{box_within}
use Rattle.sel_box.specs.Packet.{PacketFields, is_packet}
use Rattle.sel_box.specs.Point.{view_of}
use Rattle.sel_box.specs.SomePoint.{has_packet}
use Rattle.spd_line.specs.declared.judgement.Judgement.{Judgement}
use Rattle.spd_line.specs.declared.line.LineParts.{LineParts}
use Rattle.spd_line.specs.Agree.{Agree, same_judgement}
use Rattle.spd_line.specs.First.{verdict_of}
use Rattle.cert_text.specs.declared.node.Node.{Node}
use Rattle.cert_text.specs.Rows.{a_rows, b_rows, decided_at}
use Rattle.cert_text.specs.Valid.{both_same, holds, valid, whole_boxes}
use Rattle.cert_check.proofs.Agrees.{first_of}
use Rattle.cert_check.proofs.Verdicts.{PolicyLaws, a-decides, a-judges, b-decides, b-judges}
use Rattle.cert_make.specs.declared.placed.PlacedBox.{PlacedBox}
use Rattle.cert_make.specs.Rule.{first_met, made_node, placed}
use Rattle.cert_make.specs.Trees.{made_nodes, size_of, trees_of}
use Rattle.cert_make.proofs.Cuts.{Splits}
use Rattle.cert_make.proofs.Decides.{first-decides_at, none-lacks}
use Rattle.cert_make.proofs.Smaller.{node_for-cases, node_for-smaller}
use Rattle.cert_make.proofs.Trees.{trees-valid}

-- Two judgements that are the same are the same by the test.
both_same-equal : ((j : Judgement) → same_judgement j j ≡ true) → (ours theirs : Option Judgement) (x y : Judgement)
    → ours ≡ Some x → theirs ≡ Some y → x ≡ y → both_same ours theirs ≡ true
both_same-equal reflexive ours theirs x y x_is y_is same =
    ap₂ both_same x_is y_is ∙ ap (same_judgement x) (sym same) ∙ reflexive x

no_first : (P : Type 0) (found : Option Judgement) (j : Judgement) → found ≡ None → found ≡ Some j → P
no_first P found j none some = absurd (let no_way : ⊥ = cc in no_way)

-- A packet whose outbound view the box has.
pub record HasPacket (box : AnyBox) : Type 0 where
  pub packet : PacketFields
  pub is : is_packet packet ≡ true
  pub has : box_has box (view_of Outbound packet) ≡ true

module _ (laws : PolicyLaws) (reflexive : (j : Judgement) → same_judgement j j ≡ true) (a b : List LineParts) (agree : Agree a b) where
  module _ (box : AnyBox) where
    abbrev Holds : Node → Type 0
    Holds node = holds (a_rows a) (b_rows b) node box ≡ true

    packet_of : has_packet box ≡ true → HasPacket box
    packet_of some =
        let found = (laws.packet box).0 some in
        let both = and_parts (is_packet found.0) (box_has box (view_of Outbound found.0)) found.1 in
        record { packet = found.0; is = both.0; has = both.1 }

    a-meets : has_packet box ≡ true → first_met box (placed 1 (a_rows a)) ≡ None → Holds Node.Void
    a-meets some unmet =
        let p = packet_of some in
        let x = view_of Outbound p.packet in
        no_first (Holds Node.Void) (first_of x (a_rows a)) (verdict_of Outbound x a).judgement (none-lacks box x p.has 1 (a_rows a) unmet)
        (a-judges laws a p.packet p.is)

    b-meets : has_packet box ≡ true → first_met box (placed 1 (b_rows b)) ≡ None → Holds Node.Void
    b-meets some unmet =
        let p = packet_of some in
        let x = view_of Outbound p.packet in
        no_first (Holds Node.Void) (first_of x (b_rows b)) (verdict_of Inbound (view_of Inbound p.packet) b).judgement
        (none-lacks box x p.has 1 (b_rows b) unmet) (b-judges laws b p.packet p.is)

    leaf-holds : has_packet box ≡ true → (x y : PlacedBox) → first_met box (placed 1 (a_rows a)) ≡ Some x
        → first_met box (placed 1 (b_rows b)) ≡ Some y → box_within box x.region ≡ true → box_within box y.region ≡ true
        → Holds (Node.Leaf x.line y.line)
    leaf-holds some x y x_is y_is lies_x lies_y =
        let p = packet_of some in
        let ours = first-decides_at box (a_rows a) x x_is lies_x in
        let theirs = first-decides_at box (b_rows b) y y_is lies_y in
        both_same-equal reflexive (decided_at (a_rows a) x.line box) (decided_at (b_rows b) y.line box) ours.0 theirs.0 ours.1 theirs.1
        (sym (a-decides laws a p.packet p.is box p.has x.line ours.0 ours.1)
        ∙ agree p.packet p.is
        ∙ b-decides laws b p.packet p.is box p.has y.line theirs.0 theirs.1)

    split-holds : (node : Node) → Splits box node → Holds node
    split-holds node splits = ap (λ (n : Node). holds (a_rows a) (b_rows b) n box) splits.is ∙ splits.inside

    node-holds : Holds (made_node a b box)
    node-holds =
        node_for-cases Holds (placed 1 (a_rows a)) (placed 1 (b_rows b)) box (λ none. ap not none) a-meets b-meets leaf-holds split-holds

  pub made-valid : valid (holds (a_rows a) (b_rows b)) (made_nodes a b) whole_boxes ≡ true
  unfolding trees_of
  made-valid =
      trees-valid (made_node a b) size_of (node_for-smaller (placed 1 (a_rows a)) (placed 1 (b_rows b)))
      (holds (a_rows a) (b_rows b)) node-holds whole_boxes
