-- What a line decides, by the boxes of all lines one after another.
use Rattle.std.proofs.Common.{◌≡◌, ℕ, zero, suc, ◌+◌, ◌-◌, ◌<◌, ◌≤◌, Bool, true, false, ◌==◌, ◌||◌, cond, List, [], ◌∷◌, ◌++◌, length, get_or, drop, ◌≢◌}
use Rattle.std.proofs.Common.{Option, Some, None, refl, sym, ap, ap₂, ◌∙◌, arith, drop-cons}
use Rattle.std.specs.Prelude.{slice_get}
use Rattle.std.proofs.lemmas.Option.{slice_get_read}
use Rattle.std.specs.Option.{is_some}
use Rattle.std.proofs.lemmas.Bool.{and_from, eq-eqb, ne_eqb}
use Rattle.std.proofs.lemmas.Bool.Decides.{when_true}
use Rattle.std.proofs.lemmas.List.{drop-drop, drop_all, get_or-drop, get_or_default, length-drop}
use Rattle.sel_region.specs.Region.{AllInside, SomeOutside, some_has}
use Rattle.sel_box.specs.declared.any_box.AnyBox.{AnyBox}
use Rattle.sel_box.specs.Boxes.{box_has}
use Rattle.sel_box.specs.BoxRegion.{box_low, box_meet, box_within}
use Rattle.sel_box.specs.Point.{PointFields}
use Rattle.sel_box.specs.laws.BoxLaws.{box_laws}
use Rattle.sel_tree.specs.FirstMet.{IsFirstMet, NoneMet}
use Rattle.spd_line.specs.declared.judgement.Judgement.{Judgement}
use Rattle.cert_text.specs.Rows.{Row, decided, decided_at, held, met}
use Rattle.cert_rows.specs.declared.boxes.Mark.{Mark}
use Rattle.cert_rows.specs.Gathered.{marks_in, marks_of, regions_in, regions_of}
use Rattle.cert_check.specs.inner.Scan.{scan}

-- A box meets each box in which it lies.
pub within-inside : (b c : AnyBox) → box_within b c ≡ true → AllInside box_has b c
within-inside b c inside = when_true (AllInside box_has b c) (SomeOutside box_has b c) inside (box_laws.within_cases b c)

some_from_has : (common : Option AnyBox) (x : PointFields) → some_has box_has common x ≡ true → is_some common ≡ true
some_from_has None x has = absurd cc
some_from_has (Some c) x has = refl

pub within-meets : (b c : AnyBox) → box_within b c ≡ true → is_some (box_meet c b) ≡ true
within-meets b c inside =
    let low = box_low b in
    some_from_has (box_meet c b) low
    (box_laws.meet_has c b low ∙ and_from _ _ (within-inside b c inside low (box_laws.has_low b)) (box_laws.has_low b))

-- The first of two judgements that is there.
abbrev or_else : Option Judgement → Option Judgement → Option Judgement
or_else None later = later
or_else (Some judgement) later = Some judgement

or_else-none : (found : Option Judgement) → or_else found None ≡ found
or_else-none None = refl
or_else-none (Some judgement) = refl

none_either : (test : Bool) → ◌≡◌ {A = Option Judgement} (cond test None None) None
none_either true = refl
none_either false = refl

-- One box: whether it meets the box, is of the line, and has the box in it.

one_other : (meets own : Bool) (here behind left : Option Judgement) (later : Bool) → own ≡ false → behind ≡ cond later None left
    → cond meets (cond own here None) behind ≡ cond (meets || later) None left
one_other true own here behind left later is rest = ap (λ mine. cond mine here None) is
one_other false own here behind left later is rest = rest

one_own : (meets own within : Bool) (judgement : Judgement) (behind later left : Option Judgement) → own ≡ true → (within ≡ true → meets ≡ true)
    → behind ≡ or_else later left
    → cond meets (cond own (cond within (Some judgement) behind) None) behind ≡ or_else (cond within (Some judgement) later) left
one_own true own true judgement behind later left is inside rest = ap (λ mine. cond mine (Some judgement) None) is
one_own true own false judgement behind later left is inside rest = ap (λ mine. cond mine behind None) is ∙ rest
one_own false own true judgement behind later left is inside rest = absurd (cc (inside refl))
one_own false own false judgement behind later left is inside rest = rest

module _ (b : AnyBox) (line : ℕ) where
  -- Boxes of another line let it decide where none meets the box.
  scan-other : (place : ℕ) → (place == line) ≡ false → (row : Row) (regions : List AnyBox) (marks : List Mark)
      → scan line b (regions_in row ++ regions) (marks_in place row ++ marks) ≡ cond (met row b) None (scan line b regions marks)
  scan-other place other [] regions marks = refl
  scan-other place other (box ∷ row) regions marks =
      one_other (is_some (box_meet box.region b)) (place == line) _ _ (scan line b regions marks) (met row b) other
      (scan-other place other row regions marks)

  -- Its own decide by the first in which the box lies.
  scan-own : (place : ℕ) → (place == line) ≡ true → (row : Row) (regions : List AnyBox) (marks : List Mark)
      → scan line b (regions_in row ++ regions) (marks_in place row ++ marks) ≡ or_else (held row b) (scan line b regions marks)
  scan-own place own [] regions marks = refl
  scan-own place own (box ∷ row) regions marks =
      one_own (is_some (box_meet box.region b)) (place == line) (box_within b box.region) box.judgement _ (held row b) (scan line b regions marks) own
      (within-meets b box.region) (scan-own place own row regions marks)

  -- No line before the first decides.
  scan-none : (place : ℕ) (rows : List Row) → line < place → scan line b (regions_of rows) (marks_of place rows) ≡ None
  scan-none place [] behind = refl
  scan-none place (row ∷ rows) behind =
      scan-other place (ne_eqb place line (λ same. omega arith)) row (regions_of rows) (marks_of (place + 1) rows)
      ∙ ap (cond (met row b) None) (scan-none (place + 1) rows (omega arith))
      ∙ none_either (met row b)

  scan-decided : (place k : ℕ) (rows : List Row) → line ≡ place + k → scan line b (regions_of rows) (marks_of place rows) ≡ decided rows k b
  scan-decided place k [] is = refl
  scan-decided place zero (row ∷ rows) is =
      scan-own place (eq-eqb place line (omega arith)) row (regions_of rows) (marks_of (place + 1) rows)
      ∙ ap (or_else (held row b)) (scan-none (place + 1) rows (omega arith))
      ∙ or_else-none (held row b)
  scan-decided place (suc k) (row ∷ rows) is =
      scan-other place (ne_eqb place line (λ same. omega arith)) row (regions_of rows) (marks_of (place + 1) rows)
      ∙ ap (cond (met row b) None) (scan-decided (place + 1) k rows (omega arith))

-- The line decides by all boxes as it does by its rows.
pub scan-rows : (rows : List Row) (line : ℕ) (b : AnyBox) → scan line b (regions_of rows) (marks_of 1 rows) ≡ decided_at rows line b
scan-rows rows zero b = scan-none b 0 1 rows (omega arith)
scan-rows rows (suc k) b = scan-decided b (suc k) 1 k rows (omega arith)

-- Boxes that don't meet the box change nothing.
scan-skip : (line : ℕ) (b : AnyBox) (n : ℕ) (regions : List AnyBox) (marks : List Mark) → length marks ≡ length regions
    → ((k : ℕ) (d : AnyBox) → k < n → is_some (box_meet (get_or regions k d) b) ≡ false)
    → scan line b regions marks ≡ scan line b (drop n regions) (drop n marks)
scan-skip line b zero regions marks alike missed = refl
scan-skip line b (suc n) [] marks alike missed = refl
scan-skip line b (suc n) (region ∷ regions) [] alike missed = absurd (omega arith)
scan-skip line b (suc n) (region ∷ regions) (mark ∷ marks) alike missed =
    ap (λ meets. cond meets (cond (mark.line == line) (cond (box_within b region) (Some mark.judgement) (scan line b regions marks)) None)
    (scan line b regions marks))
    (missed 0 region (omega arith))
    ∙ scan-skip line b n regions marks (omega arith) (λ k d below. missed (suc k) d (omega arith))

-- From the index of one to that of the next that meets the box.
scan-onto : (line : ℕ) (b : AnyBox) (from index : ℕ) (regions : List AnyBox) (marks : List Mark) → length marks ≡ length regions
    → from ≤ index → NoneMet from index b regions
    → scan line b (drop from regions) (drop from marks) ≡ scan line b (drop index regions) (drop index marks)
scan-onto line b from index regions marks alike after missed =
    let n = index - from in
    let at : from + n ≡ index = omega arith in
    scan-skip line b n (drop from regions) (drop from marks) (omega (arith, length-drop from regions, length-drop from marks))
    (λ k d below. ap (λ (r : AnyBox). is_some (box_meet r b)) (get_or-drop from regions k d) ∙ missed (from + k) d (omega arith) (omega arith))
    ∙ ap (λ (left : List AnyBox). scan line b left (drop n (drop from marks))) (drop-drop n from regions ∙ ap (λ (m : ℕ). drop m regions) at)
    ∙ ap (scan line b (drop index regions)) (drop-drop n from marks ∙ ap (λ (m : ℕ). drop m marks) at)

-- Where no box from an index on meets the box, the line doesn't decide it.
pub scan-missed : (line : ℕ) (b : AnyBox) (from : ℕ) (regions : List AnyBox) (marks : List Mark) → length marks ≡ length regions
    → NoneMet from (length regions) b regions → scan line b (drop from regions) (drop from marks) ≡ None
scan-missed line b from regions marks alike missed =
    let n = length (drop from regions) in
    scan-skip line b n (drop from regions) (drop from marks) (omega (arith, length-drop from regions, length-drop from marks))
    (λ k d below. ap (λ (r : AnyBox). is_some (box_meet r b)) (get_or-drop from regions k d)
    ∙ missed (from + k) d (omega arith) (omega (arith, length-drop from regions)))
    ∙ ap (λ (left : List AnyBox). scan line b left (drop n (drop from marks))) (drop_all n (drop from regions) (omega arith))

-- At the first box that meets the box, the line decides it, doesn't, or goes on behind it.
scan-at : (line : ℕ) (b : AnyBox) (from index : ℕ) (regions : List AnyBox) (marks : List Mark) (region : AnyBox) (mark : Mark)
    → length marks ≡ length regions → IsFirstMet from b regions index → region ≡ get_or regions index region → mark ≡ get_or marks index mark
    → scan line b (drop from regions) (drop from marks)
    ≡ cond (mark.line == line)
    (cond (box_within b region) (Some mark.judgement) (scan line b (drop (suc index) regions) (drop (suc index) marks))) None
scan-at line b from index regions marks region mark alike first region_is mark_is =
    let here : slice_get regions index ≡ Some region =
    slice_get_read regions (length regions) index region refl first.within region_is in
    let regions_are : drop index regions ≡ region ∷ drop (suc index) regions =
    drop-cons regions index region first.within ∙ ap (λ (r : AnyBox). r ∷ drop (suc index) regions) (sym region_is) in
    let marks_are : drop index marks ≡ mark ∷ drop (suc index) marks =
    drop-cons marks index mark (omega (arith, first.within)) ∙ ap (λ (m : Mark). m ∷ drop (suc index) marks) (sym mark_is) in
    scan-onto line b from index regions marks alike first.after first.none_before
    ∙ ap₂ (λ (rs : List AnyBox) (ms : List Mark). scan line b rs ms) regions_are marks_are
    ∙ ap (λ met. cond met
    (cond (mark.line == line) (cond (box_within b region) (Some mark.judgement) (scan line b (drop (suc index) regions) (drop (suc index) marks))) None)
    (scan line b (drop (suc index) regions) (drop (suc index) marks))) (first.met region here)

module _ (line : ℕ) (b : AnyBox) (from index : ℕ) (regions : List AnyBox) (marks : List Mark) (region : AnyBox) (mark : Mark)
    (alike : length marks ≡ length regions) (first : IsFirstMet from b regions index) (region_is : region ≡ get_or regions index region)
    (mark_is : mark ≡ get_or marks index mark)
  where
    -- It is of the line, and the box lies in it.
    pub scan-held : mark.line ≡ line → box_within b region ≡ true → scan line b (drop from regions) (drop from marks) ≡ Some mark.judgement
    scan-held own inside =
        scan-at line b from index regions marks region mark alike first region_is mark_is
        ∙ ap (λ mine. cond mine (cond (box_within b region) (Some mark.judgement) (scan line b (drop (suc index) regions) (drop (suc index) marks))) None)
        (eq-eqb mark.line line own)
        ∙ ap (λ within. cond within (Some mark.judgement) (scan line b (drop (suc index) regions) (drop (suc index) marks))) inside

    -- It is of the line, and the box doesn't lie in it.
    pub scan-past : mark.line ≡ line → box_within b region ≡ false
        → scan line b (drop from regions) (drop from marks) ≡ scan line b (drop (suc index) regions) (drop (suc index) marks)
    scan-past own outside =
        scan-at line b from index regions marks region mark alike first region_is mark_is
        ∙ ap (λ mine. cond mine (cond (box_within b region) (Some mark.judgement) (scan line b (drop (suc index) regions) (drop (suc index) marks))) None)
        (eq-eqb mark.line line own)
        ∙ ap (λ within. cond within (Some mark.judgement) (scan line b (drop (suc index) regions) (drop (suc index) marks))) outside

-- It is of another line.
pub scan-stopped : (line : ℕ) (b : AnyBox) (from index : ℕ) (regions : List AnyBox) (marks : List Mark) (mark : Mark)
    → length marks ≡ length regions → IsFirstMet from b regions index → mark ≡ get_or marks index mark → mark.line ≢ line
    → scan line b (drop from regions) (drop from marks) ≡ None
scan-stopped line b from index regions marks mark alike first mark_is other =
    let region = get_or regions index b in
    let region_is : region ≡ get_or regions index region = get_or_default regions index b region first.within in
    scan-at line b from index regions marks region mark alike first region_is mark_is
    ∙ ap (λ mine. cond mine (cond (box_within b region) (Some mark.judgement) (scan line b (drop (suc index) regions) (drop (suc index) marks))) None)
    (ne_eqb mark.line line other)
