-- The boxes of the pairs have exactly the points that the proposal covers.
use Rattle.std.proofs.Common.{◌≡◌, ℕ, ◌+◌, ◌*◌, ◌/◌, ◌≤◌, Bool, true, false, ◌&&◌, ◌||◌, cond, eqb, leb, List, [], ◌∷◌, Option, Some, None}
use Rattle.std.proofs.Common.{refl, sym, subst, ap, ap₂, ◌∙◌, arith}
use Rattle.std.specs.List.{flat_map, list_all}
use Rattle.std.specs.Option.{MatchOption, option_map, option_to_list}
use Rattle.std.proofs.Math.Bool.{and-false, or-false}
use Rattle.std.proofs.lemmas.Bool.{and_parts, false_from_ne_true}
use Rattle.std.proofs.lemmas.Bool.Decides.{nat_tests}
use Rattle.std.proofs.lemmas.List.Folds.{list_any-append}
use Rattle.sel_region.specs.Interval.{range_has, range_on}
use Rattle.sel_region.specs.Pair.{both, pair_has}
use Rattle.sel_region.specs.Region.{some_has}
use Rattle.sel_box.specs.declared.any_box.AnyBox.{AnyBox}
use Rattle.sel_box.specs.Bounds.{box_of, ranges_on}
use Rattle.sel_box.specs.Boxes.{Ranges, box_from, box_has, ranges_have, values_of}
use Rattle.sel_box.specs.Class.{opaque_field, opaque_protocol}
use Rattle.sel_box.specs.Point.{PointFields}
use Rattle.sel_box.specs.laws.BoxLaws.{equal_from_same}
use Rattle.sel_text.specs.declared.family.Family.{Family}
use Rattle.sel_text.specs.declared.family.Family.TheVariants.{Four, Six}
use Rattle.sel_text.specs.Family.{last_address, same_family}
use Rattle.ts_payload.specs.declared.selector.Ts.{Ts}
use Rattle.ts_payload.specs.Selector.{has_all_ports, has_opaque_ports, is_selector}
use Rattle.ts_span.specs.declared.spanning.TsSpan.{TsSpan}
use Rattle.ts_span.specs.Span.{fields_of, is_span, lies_in, selects, selects_field, selects_protocol, span_has, span_of}
use Rattle.ts_span.specs.Span.{span_with, types_between}
use Rattle.ts_span.specs.Spelling.{some_selects}
use Rattle.ts_span.proofs.Spans.{lies, lies_in-one, lies_in-types, lies_in-whole, protocols_selected, same_test, span_in_order}
use Rattle.ts_cover.specs.Covered.{covered}
use Rattle.ts_cover.specs.Pairs.{both_spans, boxes_have, meet_bounds, pair_box, pairs, row_of, span_box}

-- ---- what a selector selects is what its span has, where it has one

-- The span has it, where there is one.
abbrev pub some_span : Option TsSpan → Family → ℕ → ℕ → ℕ → Bool
some_span None family address protocol field = false
some_span (Some span) family address protocol field = span_has span family address protocol field

abbrev TellsFields : (ℕ → Bool) → Option (ℕ × ℕ) → Type 0
TellsFields selected o =
    MatchOption o ((field : ℕ) → selected field ≡ false) (λ range. (field : ℕ) → lies_in range field ≡ selected field)

types_tell : (some : Bool) (start last : ℕ) → leb ((start + 255) / 256) (last / 256) ≡ some →
    TellsFields (λ field. lies_in (start, last) (256 * field)) (cond some (Some ((start + 255) / 256, last / 256)) None)
types_tell true start last e = lies_in-types start last
types_tell false start last e = λ field.
    sym (lies_in-types start last field)
    ∙ false_from_ne_true (lies_in ((start + 255) / 256, last / 256) field)
    (λ h. let l = lies ((start + 255) / 256, last / 256) field h in
    let from = l.from in
    let to = l.to in
    absurd (grind (arith, nat_tests)))

fields_tell : (all opaque mobility : Bool) (start last : ℕ) →
    TellsFields (λ field. cond all (leb field 65536) (cond opaque (eqb field 65536) (cond mobility (lies_in (start, last) (256 * field))
    (lies_in (start, last) field))))
    (cond all (Some (0, 65536)) (cond opaque (Some (65536, 65536)) (cond mobility (types_between start last) (Some (start, last)))))
fields_tell true opaque mobility start last = lies_in-whole 65536
fields_tell false true mobility start last = lies_in-one 65536
fields_tell false false true start last = types_tell (leb ((start + 255) / 256) (last / 256)) start last refl
fields_tell false false false start last = λ field. refl

pub span_points : (s : Ts) (family : Family) (address protocol field : ℕ) →
    some_span (span_of s) family address protocol field ≡ selects s family address protocol field
span_points s family address protocol field =
    go (fields_of s) (fields_tell (has_all_ports s) (has_opaque_ports s) (eqb s.protocol 135) s.start_port s.«end_port»)
  where
    go : (o : Option (ℕ × ℕ)) → TellsFields (selects_field s) o →
        some_span (option_map (span_with s) o) family address protocol field ≡ selects s family address protocol field
    go None none =
        sym (ap (λ (b : Bool). (same_family s.family family && lies_in (s.start, s.«end») address)
        && (selects_protocol s protocol && b)) (none field)
        ∙ ap (λ (b : Bool). (same_family s.family family && lies_in (s.start, s.«end») address) && b)
        (and-false (selects_protocol s protocol))
        ∙ and-false (same_family s.family family && lies_in (s.start, s.«end») address))
    go (Some range) same =
        ap (λ (b : Bool). (same_family s.family family && lies_in (s.start, s.«end») address) && (b && lies_in range field))
        (protocols_selected s protocol)
        ∙ ap (λ (b : Bool). (same_family s.family family && lies_in (s.start, s.«end») address)
        && (selects_protocol s protocol && b)) (same field)

-- ---- a box by its bounds

range_points : (last : ℕ) (bounds : ℕ × ℕ) (value : ℕ) → bounds.1 ≤ last →
    some_has range_has (range_on last bounds.0 bounds.1) value ≡ lies_in bounds value
range_points last bounds value within = grind (arith, nat_tests)

both_has : {R S P Q : Type 0} (f : R → P → Bool) (g : S → Q → Bool) (a : Option R) (b : Option S) (p : P) (q : Q) →
    some_has (pair_has f g) (both a b) (p, q) ≡ (some_has f a p && some_has g b q)
both_has f g (Some a) (Some b) p q = refl
both_has f g (Some a) None p q = sym (and-false (f a p))
both_has f g None (Some b) p q = refl
both_has f g None None p q = refl

from_ranges : (f : Family) (ranges : Option Ranges) (x : PointFields) →
    some_has box_has (option_map (box_from f) ranges) x ≡ (same_family f x.family && some_has ranges_have ranges (values_of x))
from_ranges f None x = sym (and-false (same_family f x.family))
from_ranges Four (Some ranges) x = refl
from_ranges Six (Some ranges) x = refl

-- The box of bounds that don't pass their axes has the points whose values each lie in theirs.
pub box_points : (f : Family) (local remote protocol local_field remote_field : ℕ × ℕ) (x : PointFields) →
    local.1 ≤ last_address f → remote.1 ≤ last_address f → protocol.1 ≤ opaque_protocol → local_field.1 ≤ opaque_field →
    remote_field.1 ≤ opaque_field →
    some_has box_has (box_of f (local ∷ remote ∷ protocol ∷ local_field ∷ remote_field ∷ [])) x
    ≡ (same_family f x.family
    && (lies_in local x.local && (lies_in remote x.remote && (lies_in protocol x.protocol
    && (lies_in local_field x.local_field && lies_in remote_field x.remote_field)))))
box_points f local remote protocol local_field remote_field x a b c d e =
    from_ranges f (ranges_on (last_address f) (local ∷ remote ∷ protocol ∷ local_field ∷ remote_field ∷ [])) x
    ∙ ap (λ (v : Bool). same_family f x.family && v)
    (both_has range_has _ _ _ x.local _
    ∙ ap₂ (λ (v w : Bool). v && w) (range_points (last_address f) local x.local a)
    (both_has range_has _ _ _ x.remote _
    ∙ ap₂ (λ (v w : Bool). v && w) (range_points (last_address f) remote x.remote b)
    (both_has range_has _ _ _ x.protocol _
    ∙ ap₂ (λ (v w : Bool). v && w) (range_points opaque_protocol protocol x.protocol c)
    (both_has range_has range_has _ _ x.local_field x.remote_field
    ∙ ap₂ (λ (v w : Bool). v && w) (range_points opaque_field local_field x.local_field d)
    (range_points opaque_field remote_field x.remote_field e)))))

-- ---- a pair of spans

-- Each range of the span lies on its axis.
pub record OnAxes (span : TsSpan) : Type 0 where
  pub addresses : span.addresses.1 ≤ last_address span.family
  pub protocols : span.protocols.1 ≤ opaque_protocol
  pub fields : span.fields.1 ≤ opaque_field

pub on_axes : (span : TsSpan) → is_span span ≡ true → OnAxes span
on_axes span h = record { addresses = grind (arith, nat_tests); protocols = grind (arith, nat_tests); fields = grind (arith, nat_tests) }

pub common_lies : (a b : ℕ × ℕ) (n : ℕ) → lies_in (meet_bounds a b) n ≡ (lies_in a n && lies_in b n)
common_lies a b n =
    same_test (lies_in (meet_bounds a b) n) (lies_in a n && lies_in b n)
    (λ h. let l = lies (meet_bounds a b) n h in
    let from = l.from in
    let to = l.to in
    grind (arith, nat_tests))
    (λ h. grind (arith, nat_tests))

pub in_two : (s ra la pa pb rf lf : Bool) →
    (s && (la && (ra && ((pa && pb) && (lf && rf))))) ≡ (((s && ra) && (pa && rf)) && ((s && la) && (pb && lf)))
in_two false ra la pa pb rf lf = refl
in_two true false true pa pb rf lf = refl
in_two true false false pa pb rf lf = refl
in_two true true false false pb rf lf = refl
in_two true true false true pb false lf = refl
in_two true true false true pb true lf = refl
in_two true true true false pb rf lf = refl
in_two true true true true false false lf = refl
in_two true true true true false true lf = refl
in_two true true true true true false false = refl
in_two true true true true true false true = refl
in_two true true true true true true false = refl
in_two true true true true true true true = refl

pub two_families : (f g h : Family) (p q r t : Bool) → same_family f g ≡ false →
    (((same_family f h && p) && q) && ((same_family g h && r) && t)) ≡ false
two_families Four Four h p q r t e = cc
two_families Six Six h p q r t e = cc
two_families Four Six Four p q r t e = and-false _
two_families Four Six Six p q r t e = refl
two_families Six Four Four p q r t e = refl
two_families Six Four Six p q r t e = and-false _

pub span_box-points : (a b : TsSpan) (x : PointFields) → is_span a ≡ true → is_span b ≡ true →
    some_has box_has (span_box a b) x
    ≡ (span_has a x.family x.remote x.protocol x.remote_field && span_has b x.family x.local x.protocol x.local_field)
span_box-points a b x ha hb = go (same_family a.family b.family) refl
  where
    go : (same : Bool) → same_family a.family b.family ≡ same →
        some_has box_has (cond same (box_of b.family (
        b.addresses ∷ a.addresses ∷ meet_bounds a.protocols b.protocols ∷ b.fields ∷ a.fields ∷ []
        )) None) x
        ≡ (span_has a x.family x.remote x.protocol x.remote_field && span_has b x.family x.local x.protocol x.local_field)
    go true e =
        let on_a = on_axes a ha in
        let on_b = on_axes b hb in
        let same = equal_from_same a.family b.family e in
        box_points b.family b.addresses a.addresses (meet_bounds a.protocols b.protocols) b.fields a.fields x
        on_b.addresses
        (let P : Family → Type 0 = λ f. a.addresses.1 ≤ last_address f in subst P same on_a.addresses)
        (let h = on_a.protocols in omega arith)
        on_b.fields on_a.fields
        ∙ ap (λ (v : Bool). same_family b.family x.family
        && (lies_in b.addresses x.local && (lies_in a.addresses x.remote && (v
        && (lies_in b.fields x.local_field && lies_in a.fields x.remote_field))))) (common_lies a.protocols b.protocols x.protocol)
        ∙ in_two (same_family b.family x.family) (lies_in a.addresses x.remote) (lies_in b.addresses x.local)
        (lies_in a.protocols x.protocol)
        (lies_in b.protocols x.protocol) (lies_in a.fields x.remote_field) (lies_in b.fields x.local_field)
        ∙ ap (λ (f : Family). ((same_family f x.family && lies_in a.addresses x.remote)
        && (lies_in a.protocols x.protocol && lies_in a.fields x.remote_field))
        && span_has b x.family x.local x.protocol x.local_field) (sym same)
    go false e =
        sym (two_families a.family b.family x.family (lies_in a.addresses x.remote)
        (lies_in a.protocols x.protocol && lies_in a.fields x.remote_field)
        (lies_in b.addresses x.local) (lies_in b.protocols x.protocol && lies_in b.fields x.local_field) e)

-- ---- pairs of selectors

pub span_of-in_order : (s : Ts) → is_selector s ≡ true → MatchOption (span_of s) (Unit {0}) (λ span. is_span span ≡ true)
span_of-in_order s h = go (fields_of s) refl
  where
    go : (o : Option (ℕ × ℕ)) → fields_of s ≡ o → MatchOption (option_map (span_with s) o) (Unit {0}) (λ span. is_span span ≡ true)
    go None e = tt
    go (Some fields) e = span_in_order s fields e h

pub pair_box-points : (s t : Ts) (x : PointFields) → is_selector s ≡ true → is_selector t ≡ true →
    some_has box_has (pair_box s t) x
    ≡ (selects s x.family x.remote x.protocol x.remote_field && selects t x.family x.local x.protocol x.local_field)
pair_box-points s t x hs ht =
    go (span_of s) (span_of t) (span_of-in_order s hs) (span_of-in_order t ht)
    ∙ ap₂ (λ (a b : Bool). a && b) (span_points s x.family x.remote x.protocol x.remote_field)
    (span_points t x.family x.local x.protocol x.local_field)
  where
    go : (a b : Option TsSpan) → MatchOption a (Unit {0}) (λ span. is_span span ≡ true) →
        MatchOption b (Unit {0}) (λ span. is_span span ≡ true) →
        some_has box_has (both_spans a b) x
        ≡ (some_span a x.family x.remote x.protocol x.remote_field && some_span b x.family x.local x.protocol x.local_field)
    go (Some a) (Some b) ha hb = span_box-points a b x ha hb
    go (Some a) None ha hb = sym (and-false (span_has a x.family x.remote x.protocol x.remote_field))
    go None (Some b) ha hb = refl
    go None None ha hb = refl

boxes_have-option : (o : Option AnyBox) (x : PointFields) → boxes_have (option_to_list o) x ≡ some_has box_has o x
boxes_have-option None x = refl
boxes_have-option (Some region) x = or-false (box_has region x)

either_second : (a b c : Bool) → ((a && b) || (a && c)) ≡ (a && (b || c))
either_second true b c = refl
either_second false b c = refl

either_first : (a b c : Bool) → ((a && c) || (b && c)) ≡ ((a || b) && c)
either_first true b true = refl
either_first true true false = refl
either_first true false false = refl
either_first false b c = refl

row_points : (s : Ts) (tsr : List Ts) (x : PointFields) → is_selector s ≡ true → list_all is_selector tsr ≡ true →
    boxes_have (row_of s tsr) x
    ≡ (selects s x.family x.remote x.protocol x.remote_field && some_selects tsr x.family x.local x.protocol x.local_field)
row_points s [] x hs h = sym (and-false (selects s x.family x.remote x.protocol x.remote_field))
row_points s (t ∷ tsr) x hs h =
    let parts = and_parts (is_selector t) (list_all is_selector tsr) h in
    list_any-append (λ region. box_has region x) (option_to_list (pair_box s t)) (row_of s tsr)
    ∙ ap₂ (λ (a b : Bool). a || b) (boxes_have-option (pair_box s t) x ∙ pair_box-points s t x hs parts.0) (row_points s tsr x hs parts.1)
    ∙ either_second (selects s x.family x.remote x.protocol x.remote_field) (selects t x.family x.local x.protocol x.local_field)
    (some_selects tsr x.family x.local x.protocol x.local_field)

pub pairs-points : (tsi tsr : List Ts) (x : PointFields) → list_all is_selector tsi ≡ true → list_all is_selector tsr ≡ true →
    boxes_have (pairs tsi tsr) x ≡ covered tsi tsr x
unfolding pairs
pairs-points [] tsr x hi hr = refl
pairs-points (s ∷ tsi) tsr x hi hr =
    let parts = and_parts (is_selector s) (list_all is_selector tsi) hi in
    list_any-append (λ region. box_has region x) (row_of s tsr) (flat_map (λ remote. row_of remote tsr) tsi)
    ∙ ap₂ (λ (a b : Bool). a || b) (row_points s tsr x parts.0 hr) (pairs-points tsi tsr x parts.1 hr)
    ∙ either_first (selects s x.family x.remote x.protocol x.remote_field) (some_selects tsi x.family x.remote x.protocol x.remote_field)
    (some_selects tsr x.family x.local x.protocol x.local_field)
