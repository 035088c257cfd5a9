-- Selectors cut to the sides of a box.
use Rattle.std.proofs.Common.{◌≡◌, ℕ, ◌*◌, ◌≤◌, Bool, true, false, not, ◌&&◌, ◌||◌, cond, eqb, leb, List, [], ◌∷◌}
use Rattle.std.proofs.Common.{length, Option, Some, None}
use Rattle.std.proofs.Common.{◌⊎◌, inl, inr, refl, sym, subst, ap, ap₂, ◌∙◌, arith}
use Rattle.std.specs.List.{flat_map, list_all}
use Rattle.std.specs.Option.{option_and_then, option_map}
use Rattle.std.proofs.lemmas.Bool.{and_from, and_parts, cases_eq, eq-eqb, eqb-true, false≢true, false_from_ne_true}
use Rattle.std.proofs.lemmas.Bool.{le-leb, leb-true, or_cases, or_left, or_right}
use Rattle.std.proofs.lemmas.List.{length-append}
use Rattle.std.proofs.lemmas.List.Folds.{list_all-append, list_any-append}
use Rattle.std.proofs.lemmas.Option.{cond_some, none-some, same_Some}
use Rattle.sel_box.specs.declared.any_box.AnyBox.{AnyBox}
use Rattle.sel_box.specs.declared.any_box.AxisName.{AxisName}
use Rattle.sel_box.specs.Boxes.{box_has, family_of, range_at}
use Rattle.sel_box.specs.Point.{IsReal, PointFields}
use Rattle.sel_box.specs.laws.BoxLaws.{equal_from_same}
use Rattle.sel_text.specs.declared.family.Family.{Family}
use Rattle.sel_text.specs.Family.{last_address, same_family}
use Rattle.ts_payload.specs.declared.selector.Ts.{Ts}
use Rattle.ts_payload.specs.Selector.{AreSelectors, fits_bytes, has_all_ports, has_opaque_ports, is_selector}
use Rattle.ts_payload.specs.Selector.{keeps_rules, ports_suit_protocol}
use Rattle.ts_payload.specs.Selector.{addresses_in_order, ports_in_order}
use Rattle.ts_span.specs.declared.spanning.TsSpan.{TsSpan}
use Rattle.ts_span.specs.Span.{fields_of, is_range, is_span, lies_in, selects, span_has, span_of, span_with, types_between}
use Rattle.ts_span.specs.Spelling.{has_all_protocols, has_number, is_writable, some_selects, spelled}
use Rattle.ts_span.proofs.Spans.{lies, span_in_order}
use Rattle.ts_span.proofs.Spelled.{spelled_few, spelled_real, spelled_selectors}
use Rattle.ts_cover.specs.Covered.{covered}
use Rattle.ts_cover.specs.Pairs.{meet_bounds}
use Rattle.ts_cover.specs.Writing.{can_write, cut_selector, cut_selectors, ends_of, local_side, remote_side, span_meet, spelled_some}
use Rattle.ts_cover.proofs.PairPoints.{common_lies, in_two, on_axes, some_span, span_points, two_families}

-- ---- what two spans have in common

abbrev in_order : ℕ × ℕ → Bool
in_order range = leb range.0 range.1

abbrev met : TsSpan → TsSpan → TsSpan
met a b = record {
  family = a.family;
  addresses = meet_bounds a.addresses b.addresses;
  protocols = meet_bounds a.protocols b.protocols;
  fields = meet_bounds a.fields b.fields;
}

abbrev ranges_meet : TsSpan → TsSpan → Bool
ranges_meet a b =
    in_order (meet_bounds a.addresses b.addresses)
    && (in_order (meet_bounds a.protocols b.protocols) && in_order (meet_bounds a.fields b.fields))

in_each : (s aa ab pa pb fa fb : Bool) →
    ((s && (aa && ab)) && ((pa && pb) && (fa && fb))) ≡ (((s && aa) && (pa && fa)) && ((s && ab) && (pb && fb)))
in_each false aa ab pa pb fa fb = refl
in_each true false ab pa pb fa fb = refl
in_each true true false false pb fa fb = refl
in_each true true false true pb false fb = refl
in_each true true false true pb true fb = refl
in_each true true true false pb fa fb = refl
in_each true true true true false false fb = refl
in_each true true true true false true fb = refl
in_each true true true true true false fb = refl
in_each true true true true true true false = refl
in_each true true true true true true true = refl

lies_both : (a b : ℕ × ℕ) (n : ℕ) → lies_in a n ≡ true → lies_in b n ≡ true → in_order (meet_bounds a b) ≡ true
lies_both a b n ha hb =
    let l = lies a n ha in
    let m = lies b n hb in
    let p = l.from in
    let q = l.to in
    let r = m.from in
    let s = m.to in
    le-leb (meet_bounds a b).0 (meet_bounds a b).1 (omega arith)

pub span_meet-points : (a b : TsSpan) (f : Family) (address protocol field : ℕ) →
    some_span (span_meet a b) f address protocol field ≡ (span_has a f address protocol field && span_has b f address protocol field)
span_meet-points a b f address protocol field = families (same_family a.family b.family) refl (ranges_meet a b) refl
  where
    families : (same : Bool) → same_family a.family b.family ≡ same → (ranges : Bool) → ranges_meet a b ≡ ranges →
        some_span (cond (same && ranges) (Some (met a b)) None) f address protocol field
        ≡ (span_has a f address protocol field && span_has b f address protocol field)
    families true e true g =
        let same = equal_from_same a.family b.family e in
        ap₂ (λ (v w : Bool). (same_family a.family f && v) && w) (common_lies a.addresses b.addresses address)
        (ap₂ (λ (v w : Bool). v && w) (common_lies a.protocols b.protocols protocol) (common_lies a.fields b.fields field))
        ∙ in_each (same_family a.family f) (lies_in a.addresses address) (lies_in b.addresses address) (lies_in a.protocols protocol)
        (lies_in b.protocols protocol) (lies_in a.fields field) (lies_in b.fields field)
        ∙ ap (λ (g : Family). span_has a f address protocol field
        && ((same_family g f && lies_in b.addresses address) && (lies_in b.protocols protocol && lies_in b.fields field))) same
    families true e false g =
        sym (false_from_ne_true (span_has a f address protocol field && span_has b f address protocol field) (λ h.
        let p = and_parts (span_has a f address protocol field) (span_has b f address protocol field) h in
        let a1 = and_parts (same_family a.family f && lies_in a.addresses address)
        (lies_in a.protocols protocol && lies_in a.fields field) p.0 in
        let b1 = and_parts (same_family b.family f && lies_in b.addresses address)
        (lies_in b.protocols protocol && lies_in b.fields field) p.1 in
        let a2 = and_parts (lies_in a.protocols protocol) (lies_in a.fields field) a1.1 in
        let b2 = and_parts (lies_in b.protocols protocol) (lies_in b.fields field) b1.1 in
        false≢true (sym g ∙ and_from (in_order (meet_bounds a.addresses b.addresses)) _
        (lies_both a.addresses b.addresses address (and_parts (same_family a.family f) (lies_in a.addresses address) a1.0).1
        (and_parts (same_family b.family f) (lies_in b.addresses address) b1.0).1)
        (and_from (in_order (meet_bounds a.protocols b.protocols)) (in_order (meet_bounds a.fields b.fields))
        (lies_both a.protocols b.protocols protocol a2.0 b2.0) (lies_both a.fields b.fields field a2.1 b2.1)))))
    families false e ranges g =
        sym (two_families a.family b.family f (lies_in a.addresses address) (lies_in a.protocols protocol && lies_in a.fields field)
        (lies_in b.addresses address) (lies_in b.protocols protocol && lies_in b.fields field) e)

-- ---- what can be written

-- The protocol is one number from 1 to 255; or the protocols are all, and the fields all or OPAQUE alone.
abbrev Writes : TsSpan → Type 0
Writes span =
    ((span.protocols.0 ≡ span.protocols.1) × (1 ≤ span.protocols.0) × (span.protocols.0 ≤ 255))
    ⊎ ((span.protocols.0 ≡ 0) × (span.protocols.1 ≡ 256) × (span.fields.1 ≡ 65536) × ((span.fields.0 ≡ 0) ⊎ (span.fields.0 ≡ 65536)))

writes : (span : TsSpan) → is_writable span ≡ true → Writes span
writes span h = elim (or_cases (has_number span) (has_all_protocols span) h) [
  | inl i ↦
      let a = and_parts (eqb span.protocols.0 span.protocols.1) (leb 1 span.protocols.0 && leb span.protocols.0 255) i in
      let b = and_parts (leb 1 span.protocols.0) (leb span.protocols.0 255) a.1 in
      inl (eqb-true span.protocols.0 span.protocols.1 a.0, leb-true 1 span.protocols.0 b.0, leb-true span.protocols.0 255 b.1)
  | inr i ↦
      let field = (eqb span.fields.1 65536) && (eqb span.fields.0 0 || eqb span.fields.0 65536) in
      let a = and_parts ((eqb span.protocols.0 0) && (eqb span.protocols.1 256)) field i in
      let b = and_parts (eqb span.protocols.0 0) (eqb span.protocols.1 256) a.0 in
      let c = and_parts (eqb span.fields.1 65536) (eqb span.fields.0 0 || eqb span.fields.0 65536) a.1 in
      inr (
        eqb-true span.protocols.0 0 b.0,
        eqb-true span.protocols.1 256 b.1,
        eqb-true span.fields.1 65536 c.0,
        elim (or_cases (eqb span.fields.0 0) (eqb span.fields.0 65536) c.1) [
          | inl e ↦ inl (eqb-true span.fields.0 0 e)
          | inr e ↦ inr (eqb-true span.fields.0 65536 e)
        ],
      )
]

number_written : (span : TsSpan) → span.protocols.0 ≡ span.protocols.1 → 1 ≤ span.protocols.0 → span.protocols.0 ≤ 255 →
    is_writable span ≡ true
number_written span one from to =
    or_left (has_number span) (has_all_protocols span)
    (and_from _ _ (eq-eqb span.protocols.0 span.protocols.1 one)
    (and_from _ _ (le-leb 1 span.protocols.0 from) (le-leb span.protocols.0 255 to)))

all_written : (span : TsSpan) → span.protocols.0 ≡ 0 → span.protocols.1 ≡ 256 → span.fields.1 ≡ 65536 →
    (span.fields.0 ≡ 0) ⊎ (span.fields.0 ≡ 65536) → is_writable span ≡ true
all_written span none whole top low =
    or_right (has_number span) (has_all_protocols span)
    (and_from _ _ (and_from _ _ (eq-eqb span.protocols.0 0 none) (eq-eqb span.protocols.1 256 whole))
    (and_from _ _ (eq-eqb span.fields.1 65536 top) (elim low [
      | inl e ↦ or_left (eqb span.fields.0 0) (eqb span.fields.0 65536) (eq-eqb span.fields.0 0 e)
      | inr e ↦ or_right (eqb span.fields.0 0) (eqb span.fields.0 65536) (eq-eqb span.fields.0 65536 e)
    ])))

-- What can be written of two spans that have something in common can be written.
met_writes : (a b : TsSpan) → Writes a → Writes b → (meet_bounds a.protocols b.protocols).0 ≤ (meet_bounds a.protocols b.protocols).1 →
    is_writable (met a b) ≡ true
met_writes a b (inl (one, from, to)) _ order = number_written (met a b) (omega arith) (omega arith) (omega arith)
met_writes a b (inr (none, whole, top, low)) (inl (one, from, to)) order =
    number_written (met a b) (omega arith) (omega arith) (omega arith)
met_writes a b (inr (none, whole, top, low)) (inr (none', whole', top', low')) order =
    all_written (met a b) (omega arith) (omega arith) (omega arith) (elim low [
      | inr e ↦ inr (elim low' [ inl g ↦ omega arith | inr g ↦ omega arith ])
      | inl e ↦ elim low' [ inl g ↦ inl (omega arith) | inr g ↦ inr (omega arith) ]
    ])

-- ---- what a selector selects can be written

abbrev fields_by : (all opaque mobility : Bool) → ℕ → ℕ → Option (ℕ × ℕ)
fields_by all opaque mobility start last =
    cond all (Some (0, 65536)) (cond opaque (Some (65536, 65536)) (cond mobility (types_between start last) (Some (start, last))))

whole_fields : (all opaque mobility : Bool) (start last : ℕ) (range : ℕ × ℕ) → (all || opaque) ≡ true →
    fields_by all opaque mobility start last ≡ Some range → (range.1 ≡ 65536) × ((range.0 ≡ 0) ⊎ (range.0 ≡ 65536))
whole_fields true opaque mobility start last range some e =
    let same = same_Some (0, 65536) range e in
    (sym (ap (λ (p : ℕ × ℕ). p.1) same), inl (sym (ap (λ (p : ℕ × ℕ). p.0) same)))
whole_fields false true mobility start last range some e =
    let same = same_Some (65536, 65536) range e in
    (sym (ap (λ (p : ℕ × ℕ). p.1) same), inr (sym (ap (λ (p : ℕ × ℕ). p.0) same)))
whole_fields false false mobility start last range some e = cc

not_first : (x y : Bool) → (not x || y) ≡ true → x ≡ true → y ≡ true
not_first true y h e = h
not_first false y h e = cc

protocols_at : (all : Bool) (n : ℕ) → eqb n 0 ≡ all → n ≤ 255 → (fields : ℕ × ℕ) →
    (all ≡ true → (fields.1 ≡ 65536) × ((fields.0 ≡ 0) ⊎ (fields.0 ≡ 65536))) →
    (let p : ℕ × ℕ = cond all (0, 256) (n, n) in
    ((p.0 ≡ p.1) × (1 ≤ p.0) × (p.0 ≤ 255)) ⊎ ((p.0 ≡ 0) × (p.1 ≡ 256) × (fields.1 ≡ 65536) × ((fields.0 ≡ 0) ⊎ (fields.0 ≡ 65536))))
protocols_at true n e fits fields whole = let w = whole refl in inr (refl, refl, w.0, w.1)
protocols_at false n e fits fields whole = elim (cases_eq n 0) [
  | inl zero ↦ absurd (false≢true (sym e ∙ eq-eqb n 0 zero))
  | inr other ↦ inl (refl, omega arith, fits)
]

selector_writes : (s : Ts) (fields : ℕ × ℕ) → is_selector s ≡ true → fields_of s ≡ Some fields → Writes (span_with s fields)
selector_writes s fields h e =
    let a = and_parts (fits_bytes s) (keeps_rules s) h in
    let byte = (and_parts (leb s.protocol 255) _ a.0).0 in
    let rules = and_parts (addresses_in_order s) (ports_in_order s && ports_suit_protocol s) a.1 in
    let suit = (and_parts (ports_in_order s) (ports_suit_protocol s) rules.1).1 in
    protocols_at (eqb s.protocol 0) s.protocol refl (leb-true s.protocol 255 byte) fields (λ all.
    whole_fields (has_all_ports s) (has_opaque_ports s) (eqb s.protocol 135) s.start_port s.«end_port» fields
    (not_first (eqb s.protocol 0) (has_all_ports s || has_opaque_ports s) suit all) e)

-- ---- a selector cut to a side

-- What is left of a selector can be written.
record IsPart (span : TsSpan) : Type 0 where
  in_order : is_span span ≡ true
  writable : is_writable span ≡ true

met_range : (last : ℕ) (a b : ℕ × ℕ) → a.1 ≤ last → in_order (meet_bounds a b) ≡ true → is_range last (meet_bounds a b) ≡ true
met_range last a b fits order = and_from _ _ order (le-leb (meet_bounds a b).1 last (omega arith))

part_is : (s : Ts) (fields : ℕ × ℕ) (side part : TsSpan) → is_selector s ≡ true → fields_of s ≡ Some fields → is_writable side ≡ true →
    span_meet (span_with s fields) side ≡ Some part → IsPart part
part_is s fields side part h e writable meet =
    let a = span_with s fields in
    let found = cond_some (same_family a.family side.family && ranges_meet a side) (met a side) part meet in
    let ranges = (and_parts (same_family a.family side.family) (ranges_meet a side) found.0).1 in
    let one = and_parts (in_order (meet_bounds a.addresses side.addresses))
    (in_order (meet_bounds a.protocols side.protocols) && in_order (meet_bounds a.fields side.fields)) ranges in
    let two = and_parts (in_order (meet_bounds a.protocols side.protocols)) (in_order (meet_bounds a.fields side.fields)) one.1 in
    let on = on_axes a (span_in_order s fields e h) in
    subst IsPart found.1 (record {
      in_order = and_from _ _ (met_range (last_address a.family) a.addresses side.addresses on.addresses one.0)
          (and_from _ _ (met_range 256 a.protocols side.protocols on.protocols two.0)
          (met_range 65536 a.fields side.fields on.fields two.1));
      writable = met_writes a side (selector_writes s fields h e) (writes side writable)
          (leb-true (meet_bounds a.protocols side.protocols).0 (meet_bounds a.protocols side.protocols).1 two.0);
    })

-- The part of a selector on a side, where there is one.
abbrev part_of : TsSpan → Ts → Option TsSpan
part_of side s = option_and_then (λ span. span_meet span side) (span_of s)

pub part_of-is : (side : TsSpan) (s : Ts) (part : TsSpan) → is_selector s ≡ true → is_writable side ≡ true → part_of side s ≡ Some part →
    (is_span part ≡ true) × (is_writable part ≡ true)
part_of-is side s part h writable e = go (fields_of s) refl e
  where
    go : (o : Option (ℕ × ℕ)) → fields_of s ≡ o → option_and_then (λ span. span_meet span side) (option_map (span_with s) o) ≡ Some part →
        (is_span part ≡ true) × (is_writable part ≡ true)
    go None f e = absurd (none-some part e)
    go (Some fields) f e = let p = part_is s fields side part h f writable e in (p.in_order, p.writable)

part_points : (side : TsSpan) (s : Ts) (f : Family) (address protocol field : ℕ) →
    some_span (part_of side s) f address protocol field ≡ (selects s f address protocol field && span_has side f address protocol field)
part_points side s f address protocol field =
    go (span_of s) ∙ ap (λ (b : Bool). b && span_has side f address protocol field) (span_points s f address protocol field)
  where
    go : (o : Option TsSpan) → some_span (option_and_then (λ span. span_meet span side) o) f address protocol field
        ≡ (some_span o f address protocol field && span_has side f address protocol field)
    go None = refl
    go (Some a) = span_meet-points a side f address protocol field

-- ---- selectors cut to a side, at an address, protocol and field that spelling keeps

either_first : (a b c : Bool) → ((a && c) || (b && c)) ≡ ((a || b) && c)
either_first true b true = refl
either_first true true false = refl
either_first true false false = refl
either_first false b c = refl

abbrev Keeps : Family → ℕ → ℕ → ℕ → Type 0
Keeps f address protocol field =
    (span : TsSpan) → is_span span ≡ true → is_writable span ≡ true →
    some_selects (spelled span) f address protocol field ≡ span_has span f address protocol field

cut_selector-selects : (side : TsSpan) (s : Ts) (f : Family) (address protocol field : ℕ) → Keeps f address protocol field →
    is_selector s ≡ true → is_writable side ≡ true →
    some_selects (cut_selector side s) f address protocol field
    ≡ (selects s f address protocol field && span_has side f address protocol field)
cut_selector-selects side s f address protocol field keeps h writable =
    go (part_of side s) refl ∙ part_points side s f address protocol field
  where
    go : (o : Option TsSpan) → part_of side s ≡ o →
        some_selects (spelled_some o) f address protocol field ≡ some_span o f address protocol field
    go None e = refl
    go (Some part) e = let p = part_of-is side s part h writable e in keeps part p.0 p.1

cut_selectors-select : (side : TsSpan) (list : List Ts) (f : Family) (address protocol field : ℕ) → Keeps f address protocol field →
    AreSelectors list → is_writable side ≡ true →
    some_selects (cut_selectors side list) f address protocol field
    ≡ (some_selects list f address protocol field && span_has side f address protocol field)
unfolding cut_selectors
cut_selectors-select side [] f address protocol field keeps h writable = refl
cut_selectors-select side (s ∷ list) f address protocol field keeps h writable =
    let parts = and_parts (is_selector s) (list_all is_selector list) h in
    list_any-append (λ selector. selects selector f address protocol field) (cut_selector side s) (flat_map (cut_selector side) list)
    ∙ ap₂ (λ (a b : Bool). a || b) (cut_selector-selects side s f address protocol field keeps parts.0 writable)
    (cut_selectors-select side list f address protocol field keeps parts.1 writable)
    ∙ either_first (selects s f address protocol field) (some_selects list f address protocol field)
    (span_has side f address protocol field)

-- ---- both sides of a box

both_same : (b : Bool) → (b && b) ≡ b
both_same true = refl
both_same false = refl

sides-points : (region : AnyBox) (x : PointFields) →
    (span_has (remote_side region) x.family x.remote x.protocol x.remote_field
    && span_has (local_side region) x.family x.local x.protocol x.local_field)
    ≡ box_has region x
sides-points region x =
    let side : AxisName → ℕ → Bool = λ axis n. lies_in (ends_of (range_at axis region)) n in
    sym (in_two (same_family (family_of region) x.family) (side AxisName.Remote x.remote) (side AxisName.Local x.local)
    (side AxisName.Protocol x.protocol) (side AxisName.Protocol x.protocol) (side AxisName.RemoteField x.remote_field)
    (side AxisName.LocalField x.local_field))
    ∙ ap (λ (b : Bool). same_family (family_of region) x.family && (side AxisName.Local x.local && (side AxisName.Remote x.remote
    && (b && (side AxisName.LocalField x.local_field && side AxisName.RemoteField x.remote_field)))))
    (both_same (side AxisName.Protocol x.protocol))

crossed : (a r b l : Bool) → ((a && r) && (b && l)) ≡ ((a && b) && (r && l))
crossed true true b l = go b l
  where
    go : (b l : Bool) → (b && l) ≡ (b && l)
    go b l = refl
crossed true false true l = refl
crossed true false false l = refl
crossed false r b l = refl

-- Where both sides of the box can be written, the cut selectors cover the real points that the proposal covers and the box has.
pub cut_selectors-cover : (region : AnyBox) (tsi tsr : List Ts) (x : PointFields) → AreSelectors tsi → AreSelectors tsr →
    can_write region ≡ true → IsReal x →
    covered (cut_selectors (remote_side region) tsi) (cut_selectors (local_side region) tsr) x
    ≡ (covered tsi tsr x && box_has region x)
cut_selectors-cover region tsi tsr x hi hr writable real =
    let sides = and_parts (is_writable (local_side region)) (is_writable (remote_side region)) writable in
    ap₂ (λ (a b : Bool). a && b)
    (cut_selectors-select (remote_side region) tsi x.family x.remote x.protocol x.remote_field
    (λ span h w. (spelled_real span h w x real).remote) hi sides.1)
    (cut_selectors-select (local_side region) tsr x.family x.local x.protocol x.local_field
    (λ span h w. (spelled_real span h w x real).local) hr sides.0)
    ∙ crossed (some_selects tsi x.family x.remote x.protocol x.remote_field)
    (span_has (remote_side region) x.family x.remote x.protocol x.remote_field)
    (some_selects tsr x.family x.local x.protocol x.local_field)
    (span_has (local_side region) x.family x.local x.protocol x.local_field)
    ∙ ap (λ (b : Bool). covered tsi tsr x && b) (sides-points region x)

-- ---- what a payload can have

cut_selector-right : (side : TsSpan) (s : Ts) → is_selector s ≡ true → is_writable side ≡ true →
    AreSelectors (cut_selector side s) × (length (cut_selector side s) ≤ 2)
cut_selector-right side s h writable = go (part_of side s) refl
  where
    go : (o : Option TsSpan) → part_of side s ≡ o → AreSelectors (spelled_some o) × (length (spelled_some o) ≤ 2)
    go None e = (refl, omega arith)
    go (Some part) e = let p = part_of-is side s part h writable e in (spelled_selectors part p.0 p.1, spelled_few part p.0 p.1)

pub cut_selectors-right : (side : TsSpan) (list : List Ts) → AreSelectors list → is_writable side ≡ true →
    AreSelectors (cut_selectors side list)
unfolding cut_selectors
cut_selectors-right side [] h writable = refl
cut_selectors-right side (s ∷ list) h writable =
    let parts = and_parts (is_selector s) (list_all is_selector list) h in
    list_all-append is_selector (cut_selector side s) (flat_map (cut_selector side) list)
    ∙ and_from _ _ (cut_selector-right side s parts.0 writable).0 (cut_selectors-right side list parts.1 writable)

pub cut_selectors-few : (side : TsSpan) (list : List Ts) → AreSelectors list → is_writable side ≡ true →
    length (cut_selectors side list) ≤ 2 * length list
unfolding cut_selectors
cut_selectors-few side [] h writable = omega arith
cut_selectors-few side (s ∷ list) h writable =
    let parts = and_parts (is_selector s) (list_all is_selector list) h in
    let first = (cut_selector-right side s parts.0 writable).1 in
    let rest = cut_selectors-few side list parts.1 writable in
    let both = length-append (cut_selector side s) (flat_map (cut_selector side) list) in
    omega arith
