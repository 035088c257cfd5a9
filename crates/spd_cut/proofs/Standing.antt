-- The entries of a policy stand for it.
use Rattle.std.proofs.Common.{◌≡◌, ◌+◌, ◌≤◌, true, List, [], ◌∷◌, ◌++◌, length, map, refl, sym, subst, ap, ◌∙◌, zero-add, arith}
use Rattle.std.specs.List.{All}
use Rattle.std.proofs.lemmas.List.Elements.{All-weaker}
use Rattle.sel_region.specs.Region.{one_if}
use Rattle.sel_region.specs.laws.RegionLemmas.{apart_from_hits}
use Rattle.sel_box.specs.Boxes.{box_has}
use Rattle.sel_box.specs.laws.BoxLaws.{box_laws}
use Rattle.sel_box.specs.BoxRegion.{box_minus}
use Rattle.sel_box.specs.declared.any_box.AnyBox.{AnyBox}
use Rattle.sel_box.specs.declared.packet.Direction.{Direction}
use Rattle.sel_box.specs.Point.{IsReal, PointFields, is_point}
use Rattle.sel_box.specs.SomePoint.{has_real_point}
use Rattle.spd_line.specs.declared.judgement.Judgement.{Judgement}
use Rattle.spd_line.specs.declared.judgement.Verdict.{Verdict}
use Rattle.spd_line.specs.declared.line.LineParts.{LineParts}
use Rattle.spd_cut.specs.declared.entry.Entry.{Entry}
use Rattle.spd_cut.specs.Entries.{entries, entries_after, entry_has, linked_boxes, new_pieces, piece_of}
use Rattle.spd_cut.specs.StandsFor.{AreLinked, HasReal, StandsFor}
use Rattle.spd_cut.proofs.FirstLines.{answer_of, linked_boxes-first, linked_boxes-has, linked_boxes-links}
use Rattle.spd_cut.proofs.Gathered.{AnswersFirst, gathered, gathered-answers, gathered-first, gathered-kept, hits-count, hits-gathered}
use Rattle.spd_cut.proofs.Gathered.{hits-gathered_le}
use Rattle.spd_cut.proofs.PolicyLaws.{PolicyLaws}
use Rattle.sel_box.proofs.RealPoints.{is_point-from_real}

-- The entries are the pieces that the boxes add, gathered.
abbrev gathered_entries : List AnyBox → List Entry → List Entry
gathered_entries earlier boxes = gathered (λ (e : Entry). e.region) piece_of box_minus has_real_point earlier boxes

entries_after-gathered : (earlier : List AnyBox) (boxes : List Entry) → entries_after earlier boxes ≡ gathered_entries earlier boxes
entries_after-gathered earlier [] = refl
entries_after-gathered earlier (box ∷ boxes) =
    ap (λ (rest : List Entry). map (piece_of box) (new_pieces earlier box.region) ++ rest) (entries_after-gathered (earlier ++ box.region ∷ []) boxes)

-- No answer is asked of an empty list.
abbrev unasked : Verdict
unasked = record { line = 0; judgement = Judgement.Discard }

module _ (d : Direction) (lines : List LineParts) where
  abbrev boxes : List Entry
  boxes = linked_boxes d 1 lines

  abbrev region_of : Entry → AnyBox
  region_of e = e.region

  pub entries-linked : AreLinked (length lines) (entries d lines)
  unfolding entries
  entries-linked =
      subst (AreLinked (length lines)) (sym (entries_after-gathered [] boxes))
      (gathered-answers box_laws region_of piece_of has_real_point (λ e b. refl) answer_of (λ e b. refl)
      (λ (v : Verdict). (1 ≤ v.line) × (v.line ≤ length lines + 1)) [] boxes
      (linked_boxes-links d (length lines) 1 lines (omega arith) (omega arith)))

  module _ (laws : PolicyLaws) where
    -- No box that has a real point is dropped.
    real_kept : (x : PointFields) → IsReal x → (b : AnyBox) → box_has b x ≡ true → has_real_point b ≡ true
    real_kept x real b has = (laws.real b).1 (x, has, real)

    first : (x : PointFields) → is_point x ≡ true →
        All (AnswersFirst box_laws region_of piece_of has_real_point (λ e b. refl) answer_of (λ e b. refl) x unasked [] boxes) (gathered_entries [] boxes)
    first x on = gathered-first box_laws region_of piece_of has_real_point (λ e b. refl) answer_of (λ e b. refl) x unasked [] boxes

    gathered-stand : StandsFor (gathered_entries [] boxes) d lines
    gathered-stand = record {
      apart = apart_from_hits entry_has (gathered_entries [] boxes)
          (λ x. hits-gathered_le box_laws region_of piece_of has_real_point (λ e b. refl) x [] boxes);
      real = All-weaker (λ (e : Entry). has_real_point e.region ≡ true) HasReal (λ e kept. (laws.real e.region).0 kept)
          (gathered_entries [] boxes)
          (gathered-kept box_laws region_of piece_of has_real_point (λ e b. refl) [] boxes);
      one = λ x real. sym (hits-count entry_has (gathered_entries [] boxes) x)
          ∙ hits-gathered box_laws region_of piece_of has_real_point (λ e b. refl) x (real_kept x real) [] boxes
          ∙ ap one_if (linked_boxes-has laws d x (is_point-from_real x real) 1 lines);
      link = λ x on k e below has.
          ap (λ (v : Verdict). v.line) ((first x on k e below has).1 ∙ linked_boxes-first laws d x on unasked 0 1 (sym (zero-add 1)) lines)
          ∙ zero-add _;
      judged = λ x on k e below has.
          ap (λ (v : Verdict). v.judgement) ((first x on k e below has).1 ∙ linked_boxes-first laws d x on unasked 0 1 (sym (zero-add 1)) lines);
    }

    pub entries-stand : StandsFor (entries d lines) d lines
    unfolding entries
    entries-stand = subst (λ (es : List Entry). StandsFor es d lines) (sym (entries_after-gathered [] boxes)) gathered-stand
