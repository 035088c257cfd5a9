-- The first box that has a point is one of the first line that selects it.
use Rattle.std.proofs.Common.{◌≡◌, ℕ, zero, suc, ◌+◌, ◌≤◌, Bool, true, false, ◌||◌, cond, List, [], ◌∷◌, ◌++◌, length, refl, sym, ap, ap₂, ◌∙◌}
use Rattle.std.proofs.Common.{append-nil, arith}
use Rattle.std.specs.List.{All, list_any}
use Rattle.std.proofs.lemmas.List.Elements.{All-append, All-head, All-map, All-tail}
use Rattle.std.proofs.lemmas.List.Folds.{list_any-append}
use Rattle.sel_region.specs.laws.RegionLemmas.{list_any-from_hits}
use Rattle.sel_box.specs.Boxes.{box_has}
use Rattle.sel_box.specs.declared.packet.Direction.{Direction}
use Rattle.sel_box.specs.Point.{PointFields, is_point}
use Rattle.spd_line.specs.declared.judgement.Judgement.{Judgement}
use Rattle.spd_line.specs.declared.judgement.Verdict.{Verdict}
use Rattle.spd_line.specs.declared.line.LineParts.{LineParts}
use Rattle.spd_line.specs.declared.line_boxes.LineBox.{LineBox}
use Rattle.spd_line.specs.First.{first_place, judged_at, line_at}
use Rattle.spd_line.specs.Judged.{judged}
use Rattle.spd_line.specs.LineBoxes.{final_list, line_boxes}
use Rattle.spd_line.specs.Selects.{selects}
use Rattle.spd_cut.specs.declared.entry.Entry.{Entry}
use Rattle.spd_cut.specs.Entries.{entry_has, linked, linked_boxes}
use Rattle.spd_cut.specs.StandsFor.{AreLinked}
use Rattle.spd_cut.proofs.Gathered.{first_answer, hits-count}
use Rattle.spd_cut.proofs.PolicyLaws.{PolicyLaws}

-- What an entry answers.
abbrev pub answer_of : Entry → Verdict
answer_of entry = record { line = entry.link; judgement = entry.judgement }

-- Where all items of the first list that have the point answer alike, so does the first of both, if one has it.
first_answer-append : {E V : Type 0} (has : E → Bool) (answer : E → V) (otherwise v : V) (xs ys : List E) →
    All (λ e. has e ≡ true → answer e ≡ v) xs →
    first_answer has answer otherwise (xs ++ ys) ≡ cond (list_any has xs) v (first_answer has answer otherwise ys)
first_answer-append has answer otherwise v [] ys alike = refl
first_answer-append {E} {V} has answer otherwise v (x ∷ xs) ys alike =
    go (has x) (All-head (λ e. has e ≡ true → answer e ≡ v) x xs alike)
    (first_answer-append has answer otherwise v xs ys (All-tail (λ e. has e ≡ true → answer e ≡ v) x xs alike))
  where
    go : (here : Bool) → (here ≡ true → answer x ≡ v) →
        first_answer has answer otherwise (xs ++ ys) ≡ cond (list_any has xs) v (first_answer has answer otherwise ys) →
        cond here (answer x) (first_answer has answer otherwise (xs ++ ys))
        ≡ cond (here || list_any has xs) v (first_answer has answer otherwise ys)
    go true same rest = same refl
    go false same rest = rest

-- Boxes with a place have the points that they had, and answer with it.
linked-has : (x : PointFields) (place : ℕ) (boxes : List LineBox) →
    list_any (λ e. entry_has e x) (linked place boxes) ≡ list_any (λ b. box_has b.region x) boxes
linked-has x place [] = refl
linked-has x place (box ∷ boxes) = ap (λ rest. box_has box.region x || rest) (linked-has x place boxes)

linked-answers : (x : PointFields) (place : ℕ) (judgement : Judgement) (boxes : List LineBox) →
    All (λ (b : LineBox). box_has b.region x ≡ true → b.judgement ≡ judgement) boxes →
    All (λ (e : Entry). entry_has e x ≡ true → answer_of e ≡ record { line = place; judgement = judgement }) (linked place boxes)
linked-answers x place judgement boxes alike =
    All-map (λ (e : Entry). entry_has e x ≡ true → answer_of e ≡ record { line = place; judgement = judgement })
    (λ (box : LineBox). record { region = box.region; judgement = box.judgement; link = place }) boxes
    (λ k d below has. ap (λ (j : Judgement). record { line = place; judgement = j }) (alike k d below has))

-- What `final` answers where it stands at the place.
abbrev discarded_at : ℕ → Verdict
discarded_at place = record { line = place; judgement = Judgement.Discard }

-- The answer of a line at a place, and of the line at a place of a list, with a number for it.
abbrev judged_by : Direction → PointFields → ℕ → LineParts → Verdict
judged_by d x place line = record { line = place; judgement = judged d x line }

abbrev pub verdict_at : Direction → PointFields → List LineParts → ℕ → ℕ → Verdict
verdict_at d x lines number place = record { line = number; judgement = judged_at d x (line_at lines place) }

-- The verdict of some lines behind so many others.
abbrev pub verdict_behind : ℕ → Direction → PointFields → List LineParts → Verdict
verdict_behind before d x lines = verdict_at d x lines (before + first_place d x lines) (first_place d x lines)

line_at-next : (line : LineParts) (lines : List LineParts) (n : ℕ) → 1 ≤ n → line_at (line ∷ lines) (1 + n) ≡ line_at lines n
line_at-next line lines zero some = absurd (omega arith)
line_at-next line lines (suc m) some = let same : 1 + suc m ≡ suc (suc m) = omega arith in rw same refl

module _ (laws : PolicyLaws) where
  final-has : (x : PointFields) → is_point x ≡ true → list_any (λ (b : LineBox). box_has b.region x) final_list ≡ true
  final-has x on =
      list_any-from_hits has final_list x true (hits-count has final_list x ∙ laws.once x on)
    where
      has : LineBox → PointFields → Bool
      has b y = box_has b.region y

  -- Each point on the axes is in some box of the policy.
  pub linked_boxes-has : (d : Direction) (x : PointFields) → is_point x ≡ true → (place : ℕ) (lines : List LineParts) →
      list_any (λ e. entry_has e x) (linked_boxes d place lines) ≡ true
  linked_boxes-has d x on place [] = linked-has x place final_list ∙ final-has x on
  linked_boxes-has d x on place (line ∷ lines) =
      list_any-append (λ e. entry_has e x) (linked place (line_boxes d line)) (linked_boxes d (1 + place) lines)
      ∙ ap (λ later. list_any (λ e. entry_has e x) (linked place (line_boxes d line)) || later) (linked_boxes-has d x on (1 + place) lines)
      ∙ go (list_any (λ e. entry_has e x) (linked place (line_boxes d line)))
    where
      go : (here : Bool) → (here || true) ≡ true
      go true = refl
      go false = refl

  -- The first box that has a point on the axes answers as the first line does, where so many lines stand before these.
  pub linked_boxes-first : (d : Direction) (x : PointFields) → is_point x ≡ true → (otherwise : Verdict) (before place : ℕ) → place ≡ before + 1 →
      (lines : List LineParts) →
      first_answer (λ e. entry_has e x) answer_of otherwise (linked_boxes d place lines)
      ≡ verdict_behind before d x lines
  linked_boxes-first d x on otherwise before place is [] =
      ap (first_answer (λ e. entry_has e x) answer_of otherwise) (sym (append-nil (linked place final_list)))
      ∙ first_answer-append (λ e. entry_has e x) answer_of otherwise (discarded_at place) (linked place final_list) []
      (linked-answers x place Judgement.Discard final_list (λ k d below has. laws.discards k d below))
      ∙ ap (λ here. cond here (discarded_at place) otherwise) (linked-has x place final_list ∙ final-has x on)
      ∙ ap discarded_at is
  linked_boxes-first d x on otherwise before place is (line ∷ lines) =
      first_answer-append (λ e. entry_has e x) answer_of otherwise (judged_by d x place line)
      (linked place (line_boxes d line)) (linked_boxes d (1 + place) lines)
      (linked-answers x place (judged d x line) (line_boxes d line) (laws.judged d x line))
      ∙ ap₂ (λ here later. cond here (judged_by d x place line) later)
      (linked-has x place (line_boxes d line) ∙ laws.has d x line on)
      (linked_boxes-first d x on otherwise (before + 1) (1 + place) (omega arith) lines)
      ∙ go (selects d x line)
    where
      go : (here : Bool) →
          cond here (judged_by d x place line) (verdict_behind (before + 1) d x lines)
          ≡ verdict_at d x (line ∷ lines) (before + cond here 1 (1 + first_place d x lines)) (cond here 1 (1 + first_place d x lines))
      go true = ap (λ (n : ℕ). record { line = n; judgement = judged d x line }) is
      go false =
          ap₂ (λ (n : ℕ) (j : Judgement). record { line = n; judgement = j })
          (omega arith)
          (ap (judged_at d x) (sym (line_at-next line lines (first_place d x lines) (laws.low d x lines))))

linked-links : (count place : ℕ) (boxes : List LineBox) → 1 ≤ place → place ≤ count + 1 → AreLinked count (linked place boxes)
linked-links count place boxes low high =
    All-map (λ (e : Entry). (1 ≤ e.link) × (e.link ≤ count + 1))
    (λ (box : LineBox). record { region = box.region; judgement = box.judgement; link = place }) boxes
    (λ k d below. (low, high))

-- Each box is linked to one of so many lines or to `final`.
pub linked_boxes-links : (d : Direction) (count place : ℕ) (lines : List LineParts) → 1 ≤ place → place + length lines ≤ count + 1 →
    AreLinked count (linked_boxes d place lines)
linked_boxes-links d count place [] low high = linked-links count place final_list low (omega arith)
linked_boxes-links d count place (line ∷ lines) low high =
    All-append (λ (e : Entry). (1 ≤ e.link) × (e.link ≤ count + 1)) (linked place (line_boxes d line)) (linked_boxes d (1 + place) lines)
    (linked-links count place (line_boxes d line) low (omega arith))
    (linked_boxes-links d count (1 + place) lines (omega arith) (omega arith))
