-- The boxes of a line, put behind those of the lines before it.
use Rattle.std.proofs.Common.{◌≡◌, ℕ, zero, suc, ◌+◌, ◌-◌, List, [], ◌∷◌, ◌++◌, map, drop, length, Some, refl, sym, ap, ◌∙◌, append_assoc, arith}
use Rattle.std.specs.Prelude.{slice_get}
use Rattle.std.proofs.lemmas.List.{length-append, length-map, map-id}
use Rattle.sel_box.specs.declared.any_box.AnyBox.{AnyBox}
use Rattle.spd_line.specs.declared.line.LineParts.{LineParts}
use Rattle.spd_line.specs.declared.line_boxes.LineBox.{LineBox}
use Rattle.spd_line.specs.First.{line_at}
use Rattle.spd_line.specs.LineBoxes.{line_boxes}
use Rattle.cert_text.specs.Rows.{Row, a_rows, b_rows}
use Rattle.cert_rows.specs.declared.boxes.Mark.{Mark}
use Rattle.cert_rows.specs.declared.gateway.Gateway.{Gateway}
use Rattle.cert_rows.specs.declared.gateway.Gateway.TheVariants.{A, B}
use Rattle.cert_rows.specs.Gathered.{direction_of, marks_in, marks_of, regions_in, regions_of, row_seen, rows_at}

drop_found : (lines : List LineParts) (k : ℕ) (line : LineParts) → slice_get lines k ≡ Some line → drop k lines ≡ line ∷ drop (suc k) lines
drop_found [] k line is = cc
drop_found (l ∷ ls) zero line is = let same : l ≡ line = cc in ap (λ (here : LineParts). here ∷ ls) same
drop_found (l ∷ ls) (suc k) line is = drop_found ls k line is

-- The row of the line at a place comes first of those that are left.
rows_next : (gateway : Gateway) (place : ℕ) (lines : List LineParts) (line : LineParts) → line_at lines place ≡ Some line
    → rows_at gateway (drop (place - 1) lines) ≡ row_seen gateway (line_boxes (direction_of gateway) line) ∷ rows_at gateway (drop (place + 1 - 1) lines)
rows_next gateway zero lines line is = cc
rows_next gateway (suc k) lines line is =
    let here : suc k - 1 ≡ k = omega arith in
    let next : suc k ≡ suc k + 1 - 1 = omega arith in
    ap (rows_at gateway) (ap (λ (n : ℕ). drop n lines) here ∙ drop_found lines k line is)
    ∙ ap (λ (n : ℕ). row_seen gateway (line_boxes (direction_of gateway) line) ∷ rows_at gateway (drop n lines)) next

pub gathered-regions : (gateway : Gateway) (place : ℕ) (lines : List LineParts) (line : LineParts) (before after : List AnyBox) (row : Row)
    → line_at lines place ≡ Some line → row ≡ line_boxes (direction_of gateway) line → after ≡ before ++ regions_in (row_seen gateway row)
    → after ++ regions_of (rows_at gateway (drop (place + 1 - 1) lines)) ≡ before ++ regions_of (rows_at gateway (drop (place - 1) lines))
gathered-regions gateway place lines line before after row is row_is after_is =
    let left = regions_of (rows_at gateway (drop (place + 1 - 1) lines)) in
    ap (λ (all : List AnyBox). all ++ left) after_is
    ∙ append_assoc before (regions_in (row_seen gateway row)) left
    ∙ ap (λ (all : List AnyBox). before ++ all)
    (ap (λ (r : Row). regions_in (row_seen gateway r) ++ left) row_is ∙ sym (ap regions_of (rows_next gateway place lines line is)))

pub gathered-marks : (gateway : Gateway) (place : ℕ) (lines : List LineParts) (line : LineParts) (before after : List Mark) (row : Row)
    → line_at lines place ≡ Some line → row ≡ line_boxes (direction_of gateway) line → after ≡ before ++ marks_in place (row_seen gateway row)
    → after ++ marks_of (place + 1) (rows_at gateway (drop (place + 1 - 1) lines)) ≡ before ++ marks_of place (rows_at gateway (drop (place - 1) lines))
gathered-marks gateway place lines line before after row is row_is after_is =
    let left = marks_of (place + 1) (rows_at gateway (drop (place + 1 - 1) lines)) in
    ap (λ (all : List Mark). all ++ left) after_is
    ∙ append_assoc before (marks_in place (row_seen gateway row)) left
    ∙ ap (λ (all : List Mark). before ++ all)
    (ap (λ (r : Row). marks_in place (row_seen gateway r) ++ left) row_is ∙ sym (ap (marks_of place) (rows_next gateway place lines line is)))

-- There is a mark for each region.
pub marks-length : (place : ℕ) (rows : List Row) → length (marks_of place rows) ≡ length (regions_of rows)
marks-length place [] = refl
marks-length place (row ∷ rows) =
    omega (
      arith,
      length-append (marks_in place row) (marks_of (place + 1) rows),
      length-append (regions_in row) (regions_of rows),
      length-map {B = Mark} row (λ (box : LineBox). record { line = place; judgement = box.judgement }),
      length-map {B = AnyBox} row (λ (box : LineBox). box.region),
      marks-length (place + 1) rows,
    )

-- The rows of A are seen as they are, those of B with their sides exchanged.
each_same : (rows : List Row) → map (row_seen A) rows ≡ rows
each_same [] = refl
each_same (row ∷ rows) = ap (λ (r : Row). r ∷ map (row_seen A) rows) (map-id row) ∙ ap (λ (rs : List Row). row ∷ rs) (each_same rows)

pub rows_at-a : (lines : List LineParts) → rows_at A lines ≡ a_rows lines
rows_at-a lines = each_same (a_rows lines)

pub rows_at-b : (lines : List LineParts) → rows_at B lines ≡ b_rows lines
rows_at-b lines = refl
