-- Two policies with valid nodes agree.
use Rattle.std.proofs.Common.{◌≡◌, ℕ, zero, suc, ◌+◌, Bool, true, false, ◌&&◌, ◌||◌, cond, nat_le, nat_lt, List, [], ◌∷◌, map, Option, Some, None, refl, sym}
use Rattle.std.proofs.Common.{subst, ap, ap₂, ◌∙◌, arith}
use Rattle.std.specs.List.{AllByRecursion, list_any}
use Rattle.std.specs.Option.{is_some}
use Rattle.std.proofs.lemmas.Bool.Decides.{nat_tests}
use Rattle.sel_region.specs.Interval.{Range, high_of, range_from, range_has}
use Rattle.sel_region.specs.Pair.{pair_has}
use Rattle.sel_region.specs.Region.{some_has}
use Rattle.sel_box.specs.declared.any_box.AnyBox.{AnyBox}
use Rattle.sel_box.specs.declared.any_box.AxisName.{AxisName}
use Rattle.sel_box.specs.declared.any_box.AxisName.TheVariants.{Local, Remote, Protocol, LocalField, RemoteField}
use Rattle.sel_box.specs.Boxes.{Ranges, Values, axis_range, box_has, ranges_have, values_of}
use Rattle.sel_box.specs.BoxRegion.{box_meet, box_within}
use Rattle.sel_box.specs.Point.{PointFields}
use Rattle.sel_box.specs.Swap.{box_swapped, point_swapped, ranges_swapped}
use Rattle.sel_box.specs.laws.BoxLaws.{box_laws}
use Rattle.sel_text.specs.declared.family.Family.{Family}
use Rattle.sel_text.specs.declared.family.Family.TheVariants.{Four, Six}
use Rattle.sel_text.specs.Family.{same_family}
use Rattle.sel_text.proofs.Options.{map_some}
use Rattle.spd_line.specs.declared.judgement.Judgement.{Judgement}
use Rattle.spd_line.specs.declared.line_boxes.LineBox.{LineBox}
use Rattle.spd_line.specs.Judged.{judged}
use Rattle.cert_text.specs.Rows.{Row, decided, decided_at, held, met, turned}
use Rattle.cert_text.specs.Split.{split_box, split_range, split_ranges, with_range}
use Rattle.cert_check.proofs.Scans.{within-inside}

-- A row has a point where one of its boxes has it.
abbrev pub has_at : PointFields → LineBox → Bool
has_at x box = box_has box.region x

abbrev pub row_has : PointFields → Row → Bool
row_has x row = list_any (has_at x) row

-- The judgement of the first box of a row that has the point, and of the first of some rows.
abbrev pub first_in : PointFields → Row → Option Judgement
first_in x [] = None
first_in x (box ∷ row) = cond (has_at x box) (Some box.judgement) (first_in x row)

abbrev pub or_else : Option Judgement → Option Judgement → Option Judgement
or_else None later = later
or_else (Some judgement) later = Some judgement

abbrev pub first_of : PointFields → List Row → Option Judgement
first_of x [] = None
first_of x (row ∷ rows) = or_else (first_in x row) (first_of x rows)

-- All boxes of a row that have the point are judged so.
abbrev pub AreJudged : PointFields → Judgement → Row → Type 0
AreJudged x judgement row = AllByRecursion (λ (box : LineBox). has_at x box ≡ true → box.judgement ≡ judgement) row

abbrev pub AreAlike : PointFields → Row → Type 0
AreAlike x row = (judgement : Judgement) × AreJudged x judgement row

pub first_in-judged : (x : PointFields) (judgement : Judgement) (row : Row) → AreJudged x judgement row
    → first_in x row ≡ cond (row_has x row) (Some judgement) None
first_in-judged x judgement [] judged = refl
first_in-judged x judgement (box ∷ row) judged =
    go (has_at x box) judged.0 (first_in-judged x judgement row judged.1)
  where
    go : (here : Bool) → (here ≡ true → box.judgement ≡ judgement) → first_in x row ≡ cond (row_has x row) (Some judgement) None
        → cond here (Some box.judgement) (first_in x row) ≡ cond (here || row_has x row) (Some judgement) None
    go true same rest = ap Some (same refl)
    go false same rest = rest

-- A row that holds a box judges each of its points so.
held-first : (x : PointFields) (b : AnyBox) → box_has b x ≡ true → (judgement found : Judgement) (row : Row) → AreJudged x judgement row
    → held row b ≡ Some found → (row_has x row ≡ true) × (judgement ≡ found)
held-first x b has judgement found [] judged is = absurd cc
held-first x b has judgement found (box ∷ row) judged is =
    go (box_within b box.region) refl (has_at x box) judged.0 (held-first x b has judgement found row judged.1)
    (λ inside. within-inside b box.region inside x has) is
  where
    go : (inside : Bool) → box_within b box.region ≡ inside → (here : Bool) → (here ≡ true → box.judgement ≡ judgement)
        → (held row b ≡ Some found → (row_has x row ≡ true) × (judgement ≡ found)) → (box_within b box.region ≡ true → here ≡ true)
        → cond inside (Some box.judgement) (held row b) ≡ Some found → ((here || row_has x row) ≡ true) × (judgement ≡ found)
    go true within true same rest has_it found_is = (refl, sym (same refl) ∙ cc)
    go true within false same rest has_it found_is = absurd (cc (has_it within))
    go false within true same rest has_it found_is = (refl, (rest found_is).1)
    go false within false same rest has_it found_is = rest found_is

-- A row that a box doesn't meet has none of its points.
unmet-lacks : (x : PointFields) (b : AnyBox) → box_has b x ≡ true → (row : Row) → met row b ≡ false → row_has x row ≡ false
unmet-lacks x b has [] missed = refl
unmet-lacks x b has (box ∷ row) missed =
    let both = neither (is_some (box_meet box.region b)) (met row b) missed in
    or_none (has_at x box) (row_has x row) (apart (box_meet box.region b) both.0 (box_laws.meet_has box.region b x)) (unmet-lacks x b has row both.1)
  where
    neither : (a c : Bool) → (a || c) ≡ false → (a ≡ false) × (c ≡ false)
    neither true c none = absurd cc
    neither false c none = (refl, none)

    or_none : (a c : Bool) → a ≡ false → c ≡ false → (a || c) ≡ false
    or_none a c first second = ap₂ (λ p q. p || q) first second

    apart : (common : Option AnyBox) → is_some common ≡ false → some_has box_has common x ≡ (has_at x box && box_has b x) → has_at x box ≡ false
    apart None none same = go (has_at x box) (box_has b x) has same
      where
        go : (p q : Bool) → q ≡ true → false ≡ (p && q) → p ≡ false
        go true q is both = sym (both ∙ is)
        go false q is both = refl
    apart (Some c) none same = absurd cc

-- What decides a box decides each of its points first.
decided-first : (x : PointFields) (b : AnyBox) → box_has b x ≡ true → (rows : List Row) → AllByRecursion (AreAlike x) rows
    → (k : ℕ) (found : Judgement) → decided rows k b ≡ Some found → first_of x rows ≡ Some found
decided-first x b has [] alike k found is = absurd cc
decided-first x b has (row ∷ rows) alike zero found is =
    let judged = alike.0.1 in
    let own = held-first x b has alike.0.0 found row judged is in
    ap (λ (first : Option Judgement). or_else first (first_of x rows))
    (first_in-judged x alike.0.0 row judged ∙ ap (λ here. cond here (Some alike.0.0) None) own.0)
    ∙ ap Some own.1
decided-first x b has (row ∷ rows) alike (suc k) found is =
    go (met row b) refl (λ same. decided-first x b has rows alike.1 k found same) is
  where
    go : (meets : Bool) → met row b ≡ meets → (decided rows k b ≡ Some found → first_of x rows ≡ Some found)
        → cond meets None (decided rows k b) ≡ Some found → or_else (first_in x row) (first_of x rows) ≡ Some found
    go true hit later same = absurd cc
    go false missed later same =
        ap (λ (first : Option Judgement). or_else first (first_of x rows))
        (first_in-judged x alike.0.0 row alike.0.1
        ∙ ap (λ here. cond here (Some alike.0.0) None) (unmet-lacks x b has row missed))
        ∙ later same

pub decided_at-first : (x : PointFields) (b : AnyBox) → box_has b x ≡ true → (rows : List Row) → AllByRecursion (AreAlike x) rows
    → (place : ℕ) (found : Judgement) → decided_at rows place b ≡ Some found → first_of x rows ≡ Some found
decided_at-first x b has rows alike zero found is = absurd cc
decided_at-first x b has rows alike (suc k) found is = decided-first x b has rows alike k found is

-- A box has a point with its sides exchanged where the other gateway's box has the point.

and_swapped : (a b c d e : Bool) → (b && (a && (c && (e && d)))) ≡ (a && (b && (c && (d && e))))
and_swapped true true c d e = ap (λ (rest : Bool). c && rest) (either d e)
  where
    either : (p q : Bool) → (q && p) ≡ (p && q)
    either true true = refl
    either true false = refl
    either false true = refl
    either false false = refl
and_swapped true false c d e = refl
and_swapped false true c d e = refl
and_swapped false false c d e = refl

ranges_swapped-have : (r : Ranges) (v : Values) → ranges_have (ranges_swapped r) v ≡ ranges_have r (v.1.0, (v.0, (v.1.1.0, (v.1.1.1.1, v.1.1.1.0))))
ranges_swapped-have r v =
    and_swapped (range_has r.first v.1.0) (range_has r.second.first v.0) (range_has r.second.second.first v.1.1.0)
    (range_has r.second.second.second.first v.1.1.1.1) (range_has r.second.second.second.second v.1.1.1.0)

box_swapped-has : (b : AnyBox) (x : PointFields) → box_has (box_swapped b) x ≡ box_has b (point_swapped x)
box_swapped-has (AnyBox.Four r) x = ap (λ (rest : Bool). same_family Four x.family && rest) (ranges_swapped-have r (values_of x))
box_swapped-has (AnyBox.Six r) x = ap (λ (rest : Bool). same_family Six x.family && rest) (ranges_swapped-have r (values_of x))

first_in-turned : (x : PointFields) (row : Row) → first_in x (turned row) ≡ first_in (point_swapped x) row
first_in-turned x [] = refl
first_in-turned x (box ∷ row) =
    ap₂ (λ (here : Bool) (later : Option Judgement). cond here (Some box.judgement) later) (box_swapped-has box.region x) (first_in-turned x row)

pub first_of-turned : (x : PointFields) (rows : List Row) → first_of x (map turned rows) ≡ first_of (point_swapped x) rows
first_of-turned x [] = refl
first_of-turned x (row ∷ rows) = ap₂ or_else (first_in-turned x row) (first_of-turned x rows)

judged-turned : (x : PointFields) (judgement : Judgement) (row : Row) → AreJudged (point_swapped x) judgement row → AreJudged x judgement (turned row)
judged-turned x judgement [] judged = tt
judged-turned x judgement (box ∷ row) judged =
    (λ has. judged.0 (sym (box_swapped-has box.region x) ∙ has), judged-turned x judgement row judged.1)

pub alike-turned : (x : PointFields) (rows : List Row) → AllByRecursion (AreAlike (point_swapped x)) rows → AllByRecursion (AreAlike x) (map turned rows)
alike-turned x [] alike = tt
alike-turned x (row ∷ rows) alike = ((alike.0.0, judged-turned x alike.0.0 row alike.0.1), alike-turned x rows alike.1)

-- The parts of a box have its points.

cut_range : (value : ℕ) (r : Range) (n : ℕ) → (nat_le r.low value && nat_lt value (high_of r)) ≡ true
    → range_has r n ≡ (range_has (range_from r.low value) n || range_has (range_from (value + 1) (high_of r)) n)
cut_range value r n within = grind (arith, nat_tests)

range_parts : (value : ℕ) (r lo hi : Range) → split_range value r ≡ Some (lo, hi) → (n : ℕ) → range_has r n ≡ (range_has lo n || range_has hi n)
range_parts value r lo hi is n = go (nat_le r.low value && nat_lt value (high_of r)) refl is
  where
    go : (cuts : Bool) → (nat_le r.low value && nat_lt value (high_of r)) ≡ cuts
        → ◌≡◌ {A = Option (Range × Range)} (cond cuts (Some (range_from r.low value, range_from (value + 1) (high_of r))) None) (Some (lo, hi))
        → range_has r n ≡ (range_has lo n || range_has hi n)
    go true within same =
        let cut : Range × Range = (range_from r.low value, range_from (value + 1) (high_of r)) in
        let given : Range × Range = (lo, hi) in
        let parts : cut ≡ given = cc in
        subst (λ (p : Range × Range). range_has r n ≡ (range_has p.0 n || range_has p.1 n)) parts (cut_range value r n within)
    go false without same = absurd cc

-- Where one part of a product is the union of two, the product is.
first_parts : (a b rest : Bool) → ((a || b) && rest) ≡ ((a && rest) || (b && rest))
first_parts true b true = refl
first_parts true b false = or_same b
  where
    or_same : (q : Bool) → false ≡ (q && false)
    or_same true = refl
    or_same false = refl
first_parts false b rest = refl

second_parts : (here a b : Bool) → (here && (a || b)) ≡ ((here && a) || (here && b))
second_parts true a b = refl
second_parts false a b = refl

ranges_parts : (axis : AxisName) (r : Ranges) (lo hi : Range) → ((n : ℕ) → range_has (axis_range axis r) n ≡ (range_has lo n || range_has hi n))
    → (v : Values) → ranges_have r v ≡ (ranges_have (with_range axis lo r) v || ranges_have (with_range axis hi r) v)
ranges_parts Local r lo hi union v =
    ap (λ (here : Bool). here && pair_has range_has (pair_has range_has (pair_has range_has range_has)) r.second v.1) (union v.0)
    ∙ first_parts (range_has lo v.0) (range_has hi v.0) _
ranges_parts Remote r lo hi union v =
    ap (λ (here : Bool). range_has r.first v.0
    && (here && pair_has range_has (pair_has range_has range_has) r.second.second v.1.1)) (union v.1.0)
    ∙ ap (λ (rest : Bool). range_has r.first v.0 && rest) (first_parts (range_has lo v.1.0) (range_has hi v.1.0) _)
    ∙ second_parts (range_has r.first v.0) _ _
ranges_parts Protocol r lo hi union v =
    let local = range_has r.first v.0 in
    let remote = range_has r.second.first v.1.0 in
    ap (λ (here : Bool). local && (remote && (here && pair_has range_has range_has r.second.second.second v.1.1.1))) (union v.1.1.0)
    ∙ ap (λ (rest : Bool). local && (remote && rest)) (first_parts (range_has lo v.1.1.0) (range_has hi v.1.1.0) _)
    ∙ ap (λ (rest : Bool). local && rest) (second_parts remote _ _)
    ∙ second_parts local _ _
ranges_parts LocalField r lo hi union v =
    let local = range_has r.first v.0 in
    let remote = range_has r.second.first v.1.0 in
    let protocol = range_has r.second.second.first v.1.1.0 in
    ap (λ (here : Bool). local && (remote && (protocol && (here && range_has r.second.second.second.second v.1.1.1.1)))) (union v.1.1.1.0)
    ∙ ap (λ (rest : Bool). local && (remote && (protocol && rest))) (first_parts (range_has lo v.1.1.1.0) (range_has hi v.1.1.1.0) _)
    ∙ ap (λ (rest : Bool). local && (remote && rest)) (second_parts protocol _ _)
    ∙ ap (λ (rest : Bool). local && rest) (second_parts remote _ _)
    ∙ second_parts local _ _
ranges_parts RemoteField r lo hi union v =
    let local = range_has r.first v.0 in
    let remote = range_has r.second.first v.1.0 in
    let protocol = range_has r.second.second.first v.1.1.0 in
    let field = range_has r.second.second.second.first v.1.1.1.0 in
    ap (λ (here : Bool). local && (remote && (protocol && (field && here)))) (union v.1.1.1.1)
    ∙ ap (λ (rest : Bool). local && (remote && (protocol && rest))) (second_parts field _ _)
    ∙ ap (λ (rest : Bool). local && (remote && rest)) (second_parts protocol _ _)
    ∙ ap (λ (rest : Bool). local && rest) (second_parts remote _ _)
    ∙ second_parts local _ _

ranges_split : (axis : AxisName) (value : ℕ) (r lo hi : Ranges) → split_ranges axis value r ≡ Some (lo, hi)
    → (v : Values) → ranges_have r v ≡ (ranges_have lo v || ranges_have hi v)
ranges_split axis value r lo hi is v =
    let cut = map_some (λ (parts : Range × Range). (with_range axis parts.0 r, with_range axis parts.1 r))
    (split_range value (axis_range axis r)) (lo, hi) is in
    subst (λ (p : Ranges × Ranges). ranges_have r v ≡ (ranges_have p.0 v || ranges_have p.1 v)) cut.2
    (ranges_parts axis r cut.0.0 cut.0.1 (range_parts value (axis_range axis r) cut.0.0 cut.0.1 cut.1) v)

family_split : (family : Family) (r lo hi : Ranges) (x : PointFields)
    → ranges_have r (values_of x) ≡ (ranges_have lo (values_of x) || ranges_have hi (values_of x))
    → (same_family family x.family && ranges_have r (values_of x))
    ≡ ((same_family family x.family && ranges_have lo (values_of x)) || (same_family family x.family && ranges_have hi (values_of x)))
family_split family r lo hi x union =
    ap (λ (rest : Bool). same_family family x.family && rest) union ∙ second_parts (same_family family x.family) _ _

pub split-has : (axis : AxisName) (value : ℕ) (b lo hi : AnyBox) → split_box axis value b ≡ Some (lo, hi) → (x : PointFields)
    → box_has b x ≡ (box_has lo x || box_has hi x)
split-has axis value (AnyBox.Four r) lo hi is x =
    let cut = map_some (λ (parts : Ranges × Ranges). (AnyBox.Four parts.0, AnyBox.Four parts.1)) (split_ranges axis value r) (lo, hi) is in
    subst (λ (p : AnyBox × AnyBox). box_has (AnyBox.Four r) x ≡ (box_has p.0 x || box_has p.1 x)) cut.2
    (family_split Four r cut.0.0 cut.0.1 x (ranges_split axis value r cut.0.0 cut.0.1 cut.1 (values_of x)))
split-has axis value (AnyBox.Six r) lo hi is x =
    let cut = map_some (λ (parts : Ranges × Ranges). (AnyBox.Six parts.0, AnyBox.Six parts.1)) (split_ranges axis value r) (lo, hi) is in
    subst (λ (p : AnyBox × AnyBox). box_has (AnyBox.Six r) x ≡ (box_has p.0 x || box_has p.1 x)) cut.2
    (family_split Six r cut.0.0 cut.0.1 x (ranges_split axis value r cut.0.0 cut.0.1 cut.1 (values_of x)))
