-- Valid nodes, by the laws of lines and boxes.
use Rattle.std.proofs.Common.{◌≡◌, ℕ, zero, suc, ◌+◌, ◌≤◌, Bool, true, false, not, ◌||◌, cond, List, [], ◌∷◌, ◌++◌, Option, Some, None, inl, inr, refl, sym}
use Rattle.std.proofs.Common.{ap, ap₂, ◌∙◌, ◌↔◌, arith}
use Rattle.std.specs.Prelude.{IsTrue, count_by}
use Rattle.std.specs.List.{All, AllByRecursion, list_any}
use Rattle.std.specs.Option.{is_some}
use Rattle.std.proofs.lemmas.Bool.{and_from, and_parts, not-true, or_cases, true≢false}
use Rattle.std.proofs.lemmas.List.Elements.{All-head, All-tail}
use Rattle.sel_box.specs.declared.any_box.AnyBox.{AnyBox}
use Rattle.sel_box.specs.declared.any_box.AxisName.{AxisName}
use Rattle.sel_box.specs.declared.packet.Direction.{Direction}
use Rattle.sel_box.specs.declared.packet.Direction.TheVariants.{Outbound, Inbound}
use Rattle.sel_box.specs.Bounds.{whole_box}
use Rattle.sel_box.specs.Boxes.{box_has}
use Rattle.sel_box.specs.LeastPacket.{is_packet_in}
use Rattle.sel_box.specs.Packet.{PacketFields, is_packet}
use Rattle.sel_box.specs.Point.{IsReal, PointFields, is_point, view_of}
use Rattle.sel_box.specs.SomePoint.{has_packet}
use Rattle.sel_text.specs.declared.family.Family.{Family}
use Rattle.sel_text.specs.declared.family.Family.TheVariants.{Four, Six}
use Rattle.spd_line.specs.declared.judgement.Judgement.{Judgement}
use Rattle.spd_line.specs.declared.line.LineParts.{LineParts}
use Rattle.spd_line.specs.declared.line_boxes.LineBox.{LineBox}
use Rattle.spd_line.specs.Agree.{Agree, same_judgement}
use Rattle.spd_line.specs.First.{first_place, judged_at, line_at, verdict_of}
use Rattle.spd_line.specs.Judged.{judged}
use Rattle.spd_line.specs.LineBoxes.{final_list, line_boxes}
use Rattle.spd_line.specs.Selects.{selects}
use Rattle.cert_text.specs.declared.node.Node.{Node}
use Rattle.cert_text.specs.Rows.{Row, a_rows, b_rows, decided_at, rows_of}
use Rattle.cert_text.specs.Split.{split_box}
use Rattle.cert_text.specs.Valid.{both_same, holds, parts, parts_by, valid, whole_boxes}
use Rattle.cert_check.proofs.Agrees.{AreAlike, AreJudged, alike-turned, decided_at-first, first_in, first_in-judged, first_of, first_of-turned, has_at}
use Rattle.cert_check.proofs.Agrees.{or_else, split-has}

-- What the laws of boxes and of lines say, as their crates promise it.
pub record PolicyLaws : Type 0 where
  pub has : (d : Direction) (x : PointFields) (line : LineParts) → IsTrue (is_point x)
      → list_any (λ (b : LineBox). box_has b.region x) (line_boxes d line) ≡ selects d x line
  pub judged_as : (d : Direction) (x : PointFields) (line : LineParts)
      → All (λ (b : LineBox). box_has b.region x ≡ true → b.judgement ≡ judged d x line) (line_boxes d line)
  pub once : (x : PointFields) → IsTrue (is_point x) → count_by (λ (b : LineBox). box_has b.region x) final_list ≡ 1
  pub discards : All (λ (b : LineBox). b.judgement ≡ Judgement.Discard) final_list
  pub equal : (a b : Judgement) → same_judgement a b ≡ true → a ≡ b
  pub packet : (b : AnyBox) → IsTrue (has_packet b) ↔ ((p : PacketFields) × (IsTrue (is_packet_in b p)))
  pub point : (x : PointFields) → IsReal x → IsTrue (is_point x)
  pub low : (d : Direction) (x : PointFields) (lines : List LineParts) → 1 ≤ first_place d x lines

by_recursion : (P : LineBox → Type 0) (row : Row) → All P row → AllByRecursion P row
by_recursion P [] all = tt
by_recursion P (box ∷ row) all = (All-head P box row all, by_recursion P row (All-tail P box row all))

some_counted : (test : LineBox → Bool) (one two : LineBox) → count_by test (one ∷ two ∷ []) ≡ 1 → list_any test (one ∷ two ∷ []) ≡ true
some_counted test one two once = go (test one) (test two) once
  where
    go : (a b : Bool) → 0 + cond a 1 0 + cond b 1 0 ≡ 1 → (a || (b || false)) ≡ true
    go true b counted = refl
    go false true counted = refl
    go false false counted = absurd (omega arith)

abbrev all_of : Family → LineBox
all_of family = record { region = whole_box family; judgement = Judgement.Discard }

line_at-next : (line : LineParts) (lines : List LineParts) (n : ℕ) → 1 ≤ n → line_at (line ∷ lines) (1 + n) ≡ line_at lines n
line_at-next line lines zero some = absurd (omega arith)
line_at-next line lines (suc m) some = let same : 1 + suc m ≡ suc (suc m) = omega arith in rw same refl

module _ (laws : PolicyLaws) where
  module _ (d : Direction) (x : PointFields) where
    -- All boxes of a row of the policy that have a point are judged alike.
    final-judged : AreJudged x Judgement.Discard final_list
    final-judged = (
      λ has. (by_recursion (λ (b : LineBox). b.judgement ≡ Judgement.Discard) final_list laws.discards).0,
      (λ has. (by_recursion (λ (b : LineBox). b.judgement ≡ Judgement.Discard) final_list laws.discards).1.0, tt),
    )

    line-judged : (line : LineParts) → AreJudged x (judged d x line) (line_boxes d line)
    line-judged line = by_recursion (λ (b : LineBox). box_has b.region x ≡ true → b.judgement ≡ judged d x line) (line_boxes d line) (laws.judged_as d x line)

    rows-alike : (lines : List LineParts) → AllByRecursion (AreAlike x) (rows_of d lines)
    rows-alike [] = ((Judgement.Discard, final-judged), tt)
    rows-alike (line ∷ lines) = ((judged d x line, line-judged line), rows-alike lines)

    -- The first box that has a point on the axes is judged as the first line judges it.

    final-first : is_point x ≡ true → or_else (first_in x final_list) None ≡ Some Judgement.Discard
    final-first on =
        ap (λ (found : Option Judgement). or_else found None)
        (first_in-judged x Judgement.Discard final_list final-judged
        ∙ ap (λ here. cond here (Some Judgement.Discard) None) (some_counted (has_at x) (all_of Four) (all_of Six) (laws.once x on)))

    verdict-next : (line : LineParts) (lines : List LineParts)
        → (verdict_of d x (line ∷ lines)).judgement ≡ cond (selects d x line) (judged d x line) (verdict_of d x lines).judgement
    verdict-next line lines = go (selects d x line)
      where
        go : (hit : Bool) → judged_at d x (line_at (line ∷ lines) (cond hit 1 (1 + first_place d x lines)))
            ≡ cond hit (judged d x line) (judged_at d x (line_at lines (first_place d x lines)))
        go true = refl
        go false = ap (judged_at d x) (line_at-next line lines (first_place d x lines) (laws.low d x lines))

    rows-first : is_point x ≡ true → (lines : List LineParts) → first_of x (rows_of d lines) ≡ Some (verdict_of d x lines).judgement
    rows-first on [] = final-first on
    rows-first on (line ∷ lines) =
        ap₂ or_else
        (first_in-judged x (judged d x line) (line_boxes d line) (line-judged line)
        ∙ ap (λ here. cond here (Some (judged d x line)) None) (laws.has d x line on))
        (rows-first on lines)
        ∙ go (selects d x line) (judged d x line) (verdict_of d x lines).judgement
        ∙ ap Some (sym (verdict-next line lines))
      where
        go : (hit : Bool) (own later : Judgement) → or_else (cond hit (Some own) None) (Some later) ≡ Some (cond hit own later)
        go true own later = refl
        go false own later = refl

  -- The first box that has a packet's outbound view is judged as A judges the packet when it goes out, of the boxes of A, and
  -- of those of B as B judges it when it comes in.

  pub a-judges : (a : List LineParts) (p : PacketFields) → is_packet p ≡ true
      → first_of (view_of Outbound p) (a_rows a) ≡ Some (verdict_of Outbound (view_of Outbound p) a).judgement
  a-judges a p packet = rows-first Outbound (view_of Outbound p) (laws.point (view_of Outbound p) (Outbound, (p, (packet, refl)))) a

  pub b-judges : (b : List LineParts) (p : PacketFields) → is_packet p ≡ true
      → first_of (view_of Outbound p) (b_rows b) ≡ Some (verdict_of Inbound (view_of Inbound p) b).judgement
  b-judges b p packet =
      first_of-turned (view_of Outbound p) (rows_of Inbound b)
      ∙ rows-first Inbound (view_of Inbound p) (laws.point (view_of Inbound p) (Inbound, (p, (packet, refl)))) b

  -- So does a line that decides a box with the packet.

  some_same : (x y : Judgement) → Some x ≡ Some y → x ≡ y
  some_same x y same = cc

  pub a-decides : (a : List LineParts) (p : PacketFields) → is_packet p ≡ true → (box : AnyBox) → box_has box (view_of Outbound p) ≡ true
      → (i : ℕ) (found : Judgement) → decided_at (a_rows a) i box ≡ Some found → (verdict_of Outbound (view_of Outbound p) a).judgement ≡ found
  a-decides a p packet box has i found is =
      let x = view_of Outbound p in
      some_same (verdict_of Outbound x a).judgement found
      (sym (a-judges a p packet) ∙ decided_at-first x box has (a_rows a) (rows-alike Outbound x a) i found is)

  pub b-decides : (b : List LineParts) (p : PacketFields) → is_packet p ≡ true → (box : AnyBox) → box_has box (view_of Outbound p) ≡ true
      → (j : ℕ) (found : Judgement) → decided_at (b_rows b) j box ≡ Some found → (verdict_of Inbound (view_of Inbound p) b).judgement ≡ found
  b-decides b p packet box has j found is =
      let x = view_of Outbound p in
      let y = view_of Inbound p in
      some_same (verdict_of Inbound y b).judgement found
      (sym (b-judges b p packet)
      ∙ decided_at-first x box has (b_rows b) (alike-turned x (rows_of Inbound b) (rows-alike Inbound y b)) j found is)

  module _ (a b : List LineParts) where
    -- Both policies judge the packets of the box alike, where it has their outbound views.
    abbrev JudgeAlike : AnyBox → Type 0
    JudgeAlike box =
        (p : PacketFields) → is_packet p ≡ true → box_has box (view_of Outbound p) ≡ true
        → (verdict_of Outbound (view_of Outbound p) a).judgement ≡ (verdict_of Inbound (view_of Inbound p) b).judgement

    both_judge : (ours theirs : Option Judgement) → both_same ours theirs ≡ true
        → (x : Judgement) × (y : Judgement) × (ours ≡ Some x) × (theirs ≡ Some y) × (same_judgement x y ≡ true)
    both_judge (Some x) (Some y) same = (x, y, refl, refl, same)
    both_judge None (Some y) same = absurd cc
    both_judge (Some x) None same = absurd cc
    both_judge None None same = absurd cc

    leaf-alike : (i j : ℕ) (box : AnyBox) → both_same (decided_at (a_rows a) i box) (decided_at (b_rows b) j box) ≡ true → JudgeAlike box
    leaf-alike i j box same p packet has =
        let found = both_judge (decided_at (a_rows a) i box) (decided_at (b_rows b) j box) same in
        a-decides a p packet box has i found.0 found.2 ∙ laws.equal found.0 found.1 found.4 ∙ sym (b-decides b p packet box has j found.1 found.3)

    void-alike : (box : AnyBox) → not (has_packet box) ≡ true → JudgeAlike box
    void-alike box none p packet has =
        let some = (laws.packet box).1 (p, and_from (is_packet p) (box_has box (view_of Outbound p)) packet has) in
        absurd (true≢false (sym some ∙ not-true (has_packet box) none))

    split-alike : (axis : AxisName) (value : ℕ) (box : AnyBox) (boxes : List AnyBox) (cut : Option (AnyBox × AnyBox)) → split_box axis value box ≡ cut
        → is_some cut ≡ true → AllByRecursion JudgeAlike (parts_by box cut ++ boxes) → AllByRecursion JudgeAlike (box ∷ boxes)
    split-alike axis value box boxes None is some each = absurd cc
    split-alike axis value box boxes (Some parts) is some each = (
      λ p packet has. elim (or_cases (box_has parts.0 (view_of Outbound p)) (box_has parts.1 (view_of Outbound p))
          (sym (split-has axis value box parts.0 parts.1 is (view_of Outbound p)) ∙ has)) [
            | inl low ↦ each.0 p packet low
            | inr high ↦ each.1.0 p packet high
          ],
      each.1.1,
    )

    each-alike : (nodes : List Node) (boxes : List AnyBox) → valid (holds (a_rows a) (b_rows b)) nodes boxes ≡ true → AllByRecursion JudgeAlike boxes
    each-alike [] [] all = tt
    each-alike [] (box ∷ boxes) all = absurd cc
    each-alike (node ∷ nodes) [] all = absurd cc
    each-alike (Node.Split axis value ∷ nodes) (box ∷ boxes) all =
        let both = and_parts (is_some (split_box axis value box))
        (valid (holds (a_rows a) (b_rows b)) nodes (parts (Node.Split axis value) box ++ boxes)) all in
        split-alike axis value box boxes (split_box axis value box) refl both.0 (each-alike nodes (parts (Node.Split axis value) box ++ boxes) both.1)
    each-alike (Node.Leaf i j ∷ nodes) (box ∷ boxes) all =
        let both = and_parts (both_same (decided_at (a_rows a) i box) (decided_at (b_rows b) j box)) (valid (holds (a_rows a) (b_rows b)) nodes boxes) all in
        (leaf-alike i j box both.0, each-alike nodes boxes both.1)
    each-alike (Node.Void ∷ nodes) (box ∷ boxes) all =
        let both = and_parts (not (has_packet box)) (valid (holds (a_rows a) (b_rows b)) nodes boxes) all in
        (void-alike box both.0, each-alike nodes boxes both.1)

    pub agree_from_valid : (nodes : List Node) → valid (holds (a_rows a) (b_rows b)) nodes whole_boxes ≡ true → Agree a b
    unfolding whole_boxes
    agree_from_valid nodes all p packet =
        let x = view_of Outbound p in
        let each = each-alike nodes whole_boxes all in
        let some = some_counted (has_at x) (all_of Four) (all_of Six) (laws.once x (laws.point x (Outbound, (p, (packet, refl))))) in
        elim (or_cases (box_has (whole_box Four) x) (box_has (whole_box Six) x || false) some) [
          | inl four ↦ each.0 p packet four
          | inr rest ↦ elim (or_cases (box_has (whole_box Six) x) false rest) [
            | inl six ↦ each.1.0 p packet six
            | inr no_box ↦ absurd (true≢false (sym no_box))
          ]
        ]
