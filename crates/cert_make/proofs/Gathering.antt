-- Boxes by their regions and their marks are those of the rows, and the first that meets a box stands at its index.
use Rattle.std.proofs.Common.{◌≡◌, ℕ, zero, suc, ◌+◌, ◌<◌, true, false, cond, List, [], ◌∷◌, ◌++◌, length, get_or, Some, None, refl, sym, ap, ap₂, ◌∙◌, arith}
use Rattle.std.proofs.lemmas.Option.{slice_get_read}
use Rattle.sel_box.specs.declared.any_box.AnyBox.{AnyBox}
use Rattle.sel_tree.specs.FirstMet.{IsFirstMet, NoneMet, meets}
use Rattle.cert_text.specs.Rows.{Row}
use Rattle.cert_rows.specs.declared.boxes.Mark.{Mark}
use Rattle.cert_rows.specs.Gathered.{AreGathered, marks_in, marks_of, regions_in, regions_of}
use Rattle.cert_make.specs.declared.placed.PlacedBox.{PlacedBox}
use Rattle.cert_make.specs.Rule.{first_met, placed, placed_in}
use Rattle.cert_make.specs.inner.PlacedBy.{placed_by}

abbrev pub placed_box : AnyBox → ℕ → PlacedBox
placed_box region line = record { region = region; line = line }

placed_by-row : (place : ℕ) (row : Row) (regions : List AnyBox) (marks : List Mark)
    → placed_by (regions_in row ++ regions) (marks_in place row ++ marks) ≡ placed_in place row ++ placed_by regions marks
placed_by-row place [] regions marks = refl
placed_by-row place (box ∷ row) regions marks =
    ap (λ (more : List PlacedBox). placed_box box.region place ∷ more) (placed_by-row place row regions marks)

placed_by-rows : (place : ℕ) (rows : List Row) → placed_by (regions_of rows) (marks_of place rows) ≡ placed place rows
placed_by-rows place [] = refl
placed_by-rows place (row ∷ rows) =
    placed_by-row place row (regions_of rows) (marks_of (place + 1) rows)
    ∙ ap (λ (more : List PlacedBox). placed_in place row ++ more) (placed_by-rows (place + 1) rows)

pub gathered-placed : (rows : List Row) (regions : List AnyBox) (marks : List Mark) → AreGathered rows regions marks
    → placed_by regions marks ≡ placed 1 rows
gathered-placed rows regions marks gathered = ap₂ placed_by gathered.regions_are gathered.marks_are ∙ placed_by-rows 1 rows

module _ (b : AnyBox) where
  met_at : (index : ℕ) (regions : List AnyBox) (marks : List Mark) (region : AnyBox) (mark : Mark) → length marks ≡ length regions
      → index < length regions → region ≡ get_or regions index region → mark ≡ get_or marks index mark → meets b region ≡ true
      → ((k : ℕ) (d : AnyBox) → k < index → meets b (get_or regions k d) ≡ false)
      → first_met b (placed_by regions marks) ≡ Some (placed_box region mark.line)
  met_at index [] marks region mark alike within region_is mark_is met before = absurd (omega arith)
  met_at index (r ∷ regions) [] region mark alike within region_is mark_is met before = absurd (omega arith)
  met_at zero (r ∷ regions) (m ∷ marks) region mark alike within region_is mark_is met before =
      ap (λ here. cond here (Some (placed_box r m.line)) (first_met b (placed_by regions marks))) (ap (meets b) (sym region_is) ∙ met)
      ∙ ap₂ (λ (r' : AnyBox) (m' : Mark). Some (placed_box r' m'.line)) (sym region_is) (sym mark_is)
  met_at (suc index) (r ∷ regions) (m ∷ marks) region mark alike within region_is mark_is met before =
      ap (λ here. cond here (Some (placed_box r m.line)) (first_met b (placed_by regions marks))) (before 0 r (omega arith))
      ∙ met_at index regions marks region mark (omega arith) (omega arith) region_is mark_is met (λ k d below. before (suc k) d (omega arith))

  pub first_met-at : (regions : List AnyBox) (marks : List Mark) (index : ℕ) (region : AnyBox) (mark : Mark) → length marks ≡ length regions
      → IsFirstMet 0 b regions index → region ≡ get_or regions index region → mark ≡ get_or marks index mark
      → first_met b (placed_by regions marks) ≡ Some (placed_box region mark.line)
  first_met-at regions marks index region mark alike first region_is mark_is =
      met_at index regions marks region mark alike first.within region_is mark_is
      (first.met region (slice_get_read regions (length regions) index region refl first.within region_is))
      (λ k d below. first.none_before k d (omega arith) below)

  none_at : (regions : List AnyBox) (marks : List Mark) → ((k : ℕ) (d : AnyBox) → k < length regions → meets b (get_or regions k d) ≡ false)
      → first_met b (placed_by regions marks) ≡ None
  none_at [] marks missed = refl
  none_at (r ∷ regions) [] missed = refl
  none_at (r ∷ regions) (m ∷ marks) missed =
      ap (λ here. cond here (Some (placed_box r m.line)) (first_met b (placed_by regions marks))) (missed 0 r (omega arith))
      ∙ none_at regions marks (λ k d below. missed (suc k) d (omega arith))

  pub first_met-none : (regions : List AnyBox) (marks : List Mark) → NoneMet 0 (length regions) b regions
      → first_met b (placed_by regions marks) ≡ None
  first_met-none regions marks none = none_at regions marks (λ k d below. none k d (omega arith) below)
