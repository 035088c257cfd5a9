-- The first row that has a range of fields: what it writes fits ports.
use Rattle.std.proofs.Common.{◌≡◌, ℕ, zero, suc, ◌+◌, ◌<◌, ◌&&◌, Bool, true, leb, List, [], ◌∷◌, length, get_or, drop, refl, sym, ap, ◌∙◌, arith}
use Rattle.std.specs.List.{list_all}
use Rattle.std.proofs.lemmas.List.{drop_more}
use Rattle.std.proofs.lemmas.Bool.{and_from, and_parts, cond-true, le-leb, leb-true}
use Rattle.ts_span.specs.declared.table.FieldRow.{FieldRow}
use Rattle.ts_span.specs.declared.table.Spelling.{Spelling}
use Rattle.ts_span.specs.declared.table.Spelling.TheVariants.{Nothing, All, Opaque, Halves, Numbers, NumbersAndOpaque, Types, TypesAndOpaque}
use Rattle.ts_span.specs.Span.{lies_in}
use Rattle.ts_span.specs.Table.{fits_ports, ports_by, ports_of, row_fits, row_has, suits}

at_most : (number bound last : ℕ) → leb number bound ≡ true → leb bound last ≡ true → leb number last ≡ true
at_most number bound last h i =
    let a = leb-true number bound h in
    let b = leb-true bound last i in
    le-leb number last (omega arith)

lesser_fits : (spelling : Spelling) (fields bounds : ℕ × ℕ) → leb fields.0 bounds.0 ≡ true → leb fields.1 bounds.1 ≡ true
    → fits_ports spelling bounds ≡ true → fits_ports spelling fields ≡ true
lesser_fits Nothing fields bounds low high h = refl
lesser_fits All fields bounds low high h = refl
lesser_fits Opaque fields bounds low high h = refl
lesser_fits Halves fields bounds low high h = refl
lesser_fits Numbers fields bounds low high h =
    let p = and_parts (leb bounds.0 65535) (leb bounds.1 65535) h in
    and_from (leb fields.0 65535) (leb fields.1 65535) (at_most fields.0 bounds.0 65535 low p.0) (at_most fields.1 bounds.1 65535 high p.1)
lesser_fits NumbersAndOpaque fields bounds low high h = at_most fields.0 bounds.0 65535 low h
lesser_fits Types fields bounds low high h = at_most fields.0 bounds.0 255 low h
lesser_fits TypesAndOpaque fields bounds low high h = at_most fields.0 bounds.0 255 low h

pub found_fits : (mobility : Bool) (fields : ℕ × ℕ) (row : FieldRow) → row_fits row ≡ true → row_has mobility fields row ≡ true
    → fits_ports row.spelling fields ≡ true
found_fits mobility fields row fits has =
    let a = and_parts (suits row.protocols mobility) (lies_in row.lows fields.0 && lies_in row.highs fields.1) has in
    let b = and_parts (lies_in row.lows fields.0) (lies_in row.highs fields.1) a.1 in
    let low = and_parts (leb row.lows.0 fields.0) (leb fields.0 row.lows.1) b.0 in
    let high = and_parts (leb row.highs.0 fields.1) (leb fields.1 row.highs.1) b.1 in
    lesser_fits row.spelling fields (row.lows.1, row.highs.1) low.1 high.1 fits

pub list_all-at : {X : Type 0} (p : X → Bool) (xs : List X) (i : ℕ) (d : X) → list_all p xs ≡ true → i < length xs → p (get_or xs i d) ≡ true
list_all-at p [] i d h below = absurd (omega arith)
list_all-at p (x ∷ xs) zero d h below = (and_parts (p x) (list_all p xs) h).0
list_all-at p (x ∷ xs) (suc i) d h below = list_all-at p xs i d (and_parts (p x) (list_all p xs) h).1 (omega arith)

-- the rows before the one that has the range don't have it
pub found_here : (mobility : Bool) (fields : ℕ × ℕ) (rows : List FieldRow) (i : ℕ) (d : FieldRow) → i < length rows
    → ports_by mobility fields (drop i rows) ≡ ports_by mobility fields rows → row_has mobility fields (get_or rows i d) ≡ true
    → ports_of (get_or rows i d).spelling fields ≡ ports_by mobility fields rows
found_here mobility fields rows i d below so_far has =
    let row = get_or rows i d in
    sym (cond-true (row_has mobility fields row) (ports_of row.spelling fields) (ports_by mobility fields (drop (i + 1) rows)) has)
    ∙ (sym (ap (λ (xs : List FieldRow). ports_by mobility fields xs) (drop_more rows i d below)) ∙ so_far)
