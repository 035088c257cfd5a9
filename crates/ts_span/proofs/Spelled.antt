-- What a span is written as selects what the span has.
use Rattle.std.proofs.Common.{◌≡◌, ℕ, ◌≤◌, ◌&&◌, ◌||◌, Bool, true, false, cond, eqb, leb, List, [], ◌∷◌, length, map, refl, sym, ap, subst, ◌∙◌, arith}
use Rattle.std.proofs.Common.{◌⊎◌, inl, inr}
use Rattle.std.specs.List.{list_all, list_any}
use Rattle.std.proofs.lemmas.Bool.{and_from, and_left, and_parts, cases_eq, eqb-true, eq-eqb, leb-true, le-leb, lt-leb, ne_eqb, or_cases}
use Rattle.std.proofs.lemmas.List.{length-map}
use Rattle.sel_text.specs.declared.family.Family.{Family}
use Rattle.sel_text.specs.Family.{last_address, same_family}
use Rattle.sel_box.specs.declared.packet.Direction.TheVariants.{Inbound, Outbound}
use Rattle.sel_box.specs.declared.packet.Direction.{Direction}
use Rattle.sel_box.specs.Class.{fields_fit}
use Rattle.sel_box.specs.Packet.{PacketFields, is_packet}
use Rattle.sel_box.specs.Point.{IsReal, PointFields, view_of}
use Rattle.ts_payload.specs.Selector.{AreSelectors, is_selector}
use Rattle.ts_span.specs.declared.spanning.TsSpan.{TsSpan}
use Rattle.ts_span.specs.Span.{is_range, is_span, lies_in, selects, span_has}
use Rattle.ts_span.specs.Spelling.{SelectsLike, has_all_protocols, has_number, is_no_type, is_writable, selector_with, some_selects, spelled}
use Rattle.ts_span.specs.Table.{field_rows, ports_by}
use Rattle.ts_span.proofs.Ranges.{AreRight, CanWrite, by_table-right, ports_right, ports_select}
use Rattle.ts_span.proofs.Spans.{lies_in-one, lies_in-whole}

-- ---- the parts of the conditions

pub data ProtocolsAre (span : TsSpan) : Type 0 where
  number : span.protocols.0 ≡ span.protocols.1 → 1 ≤ span.protocols.0 → span.protocols.0 ≤ 255 → ProtocolsAre span
  all : span.protocols.0 ≡ 0 → span.protocols.1 ≡ 256 → span.fields.1 ≡ 65536 → (span.fields.0 ≡ 0) ⊎ (span.fields.0 ≡ 65536) → ProtocolsAre span

pub protocols_are : (span : TsSpan) → is_writable span ≡ true → ProtocolsAre span
protocols_are span h = elim (or_cases (has_number span) (has_all_protocols span) h) [
  | inl i ↦
      let a = and_parts (eqb span.protocols.0 span.protocols.1) (leb 1 span.protocols.0 && leb span.protocols.0 255) i in
      let b = and_parts (leb 1 span.protocols.0) (leb span.protocols.0 255) a.1 in
      number (eqb-true span.protocols.0 span.protocols.1 a.0) (leb-true 1 span.protocols.0 b.0) (leb-true span.protocols.0 255 b.1)
  | inr i ↦
      let field = (eqb span.fields.1 65536) && (eqb span.fields.0 0 || eqb span.fields.0 65536) in
      let a = and_parts ((eqb span.protocols.0 0) && (eqb span.protocols.1 256)) field i in
      let b = and_parts (eqb span.protocols.0 0) (eqb span.protocols.1 256) a.0 in
      let c = and_parts (eqb span.fields.1 65536) (eqb span.fields.0 0 || eqb span.fields.0 65536) a.1 in
      all (eqb-true span.protocols.0 0 b.0) (eqb-true span.protocols.1 256 b.1) (eqb-true span.fields.1 65536 c.0)
      (elim (or_cases (eqb span.fields.0 0) (eqb span.fields.0 65536) c.1) [
        | inl e ↦ inl (eqb-true span.fields.0 0 e)
        | inr e ↦ inr (eqb-true span.fields.0 65536 e)
      ])
]

record SpanParts (span : TsSpan) : Type 0 where
  addresses : leb span.addresses.0 span.addresses.1 ≡ true
  in_family : leb span.addresses.1 (last_address span.family) ≡ true
  fields : span.fields.0 ≤ span.fields.1
  on_axis : span.fields.1 ≤ 65536

span_parts : (span : TsSpan) → is_span span ≡ true → SpanParts span
span_parts span h =
    let a = and_parts (is_range (last_address span.family) span.addresses) (is_range 256 span.protocols && is_range 65536 span.fields) h in
    let b = and_parts (is_range 256 span.protocols) (is_range 65536 span.fields) a.1 in
    let c = and_parts (leb span.addresses.0 span.addresses.1) (leb span.addresses.1 (last_address span.family)) a.0 in
    let d = and_parts (leb span.fields.0 span.fields.1) (leb span.fields.1 65536) b.1 in
    record { addresses = c.0; in_family = c.1; fields = leb-true span.fields.0 span.fields.1 d.0; on_axis = leb-true span.fields.1 65536 d.1 }

can_write : (span : TsSpan) → ProtocolsAre span → CanWrite span.protocols.0 span.fields.0 span.fields.1
can_write span (number one some byte) = inl some
can_write span (all none whole top low) = inr (top, low)

abbrev ports_of_span : TsSpan → List (ℕ × ℕ)
ports_of_span span = ports_by (eqb span.protocols.0 135) span.fields field_rows

ports_are_right : (span : TsSpan) → is_span span ≡ true → is_writable span ≡ true → AreRight span.protocols.0 span.fields (ports_of_span span)
ports_are_right span h writable =
    let parts = span_parts span h in
    by_table-right span.protocols.0 span.fields.0 span.fields.1 parts.fields parts.on_axis (can_write span (protocols_are span writable))

-- ---- what is written selects what the span has

any_mapped : {X Y : Type 0} (p : Y → Bool) (h : X → Y) (xs : List X) → list_any p (map h xs) ≡ list_any (λ x. p (h x)) xs
any_mapped p h [] = refl
any_mapped p h (x ∷ xs) = ap (λ (b : Bool). p (h x) || b) (any_mapped p h xs)

none_of : {X : Type 0} (xs : List X) → list_any (λ (x : X). false) xs ≡ false
none_of [] = refl
none_of (x ∷ xs) = none_of xs

in_common : {X : Type 0} (side protocol : Bool) (q : X → Bool) (xs : List X)
    → list_any (λ x. side && (protocol && q x)) xs ≡ (side && (protocol && list_any q xs))
in_common true true q xs = refl
in_common true false q xs = none_of xs
in_common false protocol q xs = none_of xs

where_selected : (side protocol x y : Bool) → (protocol ≡ true → x ≡ y) → (side && (protocol && x)) ≡ (side && (protocol && y))
where_selected true true x y h = h refl
where_selected true false x y h = refl
where_selected false protocol x y h = refl

-- the protocols of the selectors that are written
abbrev number_selects : ℕ → ℕ → Bool
number_selects written protocol = cond (eqb written 0) (leb protocol 256) (eqb protocol written)

same_protocols : (span : TsSpan) (protocol : ℕ) → ProtocolsAre span → number_selects span.protocols.0 protocol ≡ lies_in span.protocols protocol
same_protocols span protocol (number one some byte) =
    rw (ne_eqb span.protocols.0 0 (λ e. omega arith))
    (sym (lies_in-one span.protocols.0 protocol) ∙ ap (λ (n : ℕ). lies_in (span.protocols.0, n) protocol) one)
same_protocols span protocol (all none whole top low) =
    rw (eq-eqb span.protocols.0 0 none)
    (sym (lies_in-whole 256 protocol) ∙ (ap (λ (n : ℕ). lies_in (n, 256) protocol) (sym none) ∙ ap (λ (n : ℕ). lies_in (
      span.protocols.0,
      n,
    ) protocol) (sym whole)))

type_again : (span : TsSpan) (protocol field : ℕ) → ProtocolsAre span → number_selects span.protocols.0 protocol ≡ true → is_no_type protocol field ≡ false
    → is_no_type span.protocols.0 field ≡ false
type_again span protocol field (number one some byte) selected h =
    let e : eqb protocol span.protocols.0 ≡ true = rw (ne_eqb span.protocols.0 0 (λ e. omega arith)) at selected in
    subst (λ (n : ℕ). is_no_type n field ≡ false) (eqb-true protocol span.protocols.0 e) h
type_again span protocol field (all none whole top low) selected h = subst (λ (n : ℕ). is_no_type n field ≡ false) (sym none) refl

pub spelled_selects : (span : TsSpan) → is_span span ≡ true → is_writable span ≡ true → (family : Family) (address protocol field : ℕ)
    → is_no_type protocol field ≡ false
    → some_selects (spelled span) family address protocol field ≡ span_has span family address protocol field
spelled_selects span h writable family address protocol field shown =
    let ports = ports_of_span span in
    let right = ports_are_right span h writable in
    let are = protocols_are span writable in
    let side = same_family span.family family && lies_in span.addresses address in
    let named = number_selects span.protocols.0 protocol in
    let each : ℕ × ℕ → Bool = λ pair. ports_select span.protocols.0 pair field in
    any_mapped (λ selector. selects selector family address protocol field) (selector_with span) ports
    ∙ (in_common side named each ports
    ∙ (where_selected side named (list_any each ports) (lies_in span.fields field) (λ selected. right.same field
    (type_again span protocol field are selected shown))
    ∙ ap (λ (b : Bool). side && (b && lies_in span.fields field)) (same_protocols span protocol are)))

-- ---- real points

mobility_fits : (source destination : ℕ) → fields_fit 135 source destination ≡ true → (is_no_type 135 source ≡ false) × (is_no_type 135 destination ≡ false)
mobility_fits source destination h =
    let p = and_parts (leb source 255 || eqb source 65536) (eqb destination 65536) h in
    let is_opaque : destination ≡ 65536 = eqb-true destination 65536 p.1 in (
      elim (or_cases (leb source 255) (eqb source 65536) p.0) [
        | inl byte ↦ let low = leb-true source 255 byte in and_left (leb 256 source) (leb source 65535) (lt-leb 256 source (omega arith))
        | inr none ↦ let e : source ≡ 65536 = eqb-true source 65536 none in subst (λ (n : ℕ). is_no_type 135 n ≡ false) (sym e) refl
      ],
      subst (λ (n : ℕ). is_no_type 135 n ≡ false) (sym is_opaque) refl,
    )

fields_are_types : (protocol source destination : ℕ) → fields_fit protocol source destination ≡ true
    → (is_no_type protocol source ≡ false) × (is_no_type protocol destination ≡ false)
fields_are_types protocol source destination h = elim (cases_eq protocol 135) [
  | inl e ↦
      subst (λ (n : ℕ). (is_no_type n source ≡ false) × (is_no_type n destination ≡ false)) (sym e)
      (mobility_fits source destination (subst (λ (n : ℕ). fields_fit n source destination ≡ true) e h))
  | inr other ↦ (
    and_left (eqb protocol 135) (leb 256 source && leb source 65535) (ne_eqb protocol 135 other),
    and_left (eqb protocol 135) (leb 256 destination && leb destination 65535) (ne_eqb protocol 135 other),
  )
]

packet_fields : (p : PacketFields) → is_packet p ≡ true → (is_no_type p.protocol p.source_field ≡ false) × (is_no_type p.protocol p.destination_field ≡ false)
packet_fields p h = fields_are_types p.protocol p.source_field p.destination_field (and_parts _ (fields_fit p.protocol p.source_field p.destination_field) h).1

abbrev AreTypes : PointFields → Type 0
AreTypes x = (is_no_type x.protocol x.local_field ≡ false) × (is_no_type x.protocol x.remote_field ≡ false)

view_fields : (d : Direction) (p : PacketFields) → is_packet p ≡ true → AreTypes (view_of d p)
view_fields Outbound p h = packet_fields p h
view_fields Inbound p h = let f = packet_fields p h in (f.1, f.0)

pub spelled_real : (span : TsSpan) → is_span span ≡ true → is_writable span ≡ true → (x : PointFields) → IsReal x → SelectsLike (spelled span) span x
spelled_real span h writable x (d, (p, (is, at))) =
    let f = subst (λ (y : PointFields). AreTypes y) at (view_fields d p is) in
    record {
      local = spelled_selects span h writable x.family x.local x.protocol x.local_field f.0;
      remote = spelled_selects span h writable x.family x.remote x.protocol x.remote_field f.1;
    }

-- ---- selectors of a payload

one_selector : (span : TsSpan) → is_span span ≡ true → is_writable span ≡ true → (ports : ℕ × ℕ) → ports_right span.protocols.0 ports ≡ true
    → is_selector (selector_with span ports) ≡ true
one_selector span h writable ports right =
    let parts = span_parts span h in
    let last = last_address span.family in
    let byte : span.protocols.0 ≤ 255 = elim (protocols_are span writable) [ number one some byte ↦ byte | all none whole top low ↦ omega arith ] in
    let a = and_parts (leb ports.0 65535 && leb ports.1 65535) _ right in
    let b = and_parts (leb ports.0 65535) (leb ports.1 65535) a.0 in
    let start_fits : leb span.addresses.0 last ≡ true =
    let x = leb-true span.addresses.0 span.addresses.1 parts.addresses in
    let y = leb-true span.addresses.1 last parts.in_family in
    le-leb span.addresses.0 last (omega arith) in
    and_from _ _
    (and_from (leb span.protocols.0 255) _ (le-leb span.protocols.0 255 byte)
    (and_from (leb ports.0 65535) _ b.0 (and_from (leb ports.1 65535) _ b.1 (and_from (leb span.addresses.0 last) _ start_fits parts.in_family))))
    (and_from (leb span.addresses.0 span.addresses.1) _ parts.addresses a.1)

all_selectors : (span : TsSpan) → is_span span ≡ true → is_writable span ≡ true → (ports : List (ℕ × ℕ))
    → list_all (λ pair. ports_right span.protocols.0 pair) ports ≡ true → list_all is_selector (map (selector_with span) ports) ≡ true
all_selectors span h writable [] right = refl
all_selectors span h writable (pair ∷ ports) right =
    let parts = and_parts (ports_right span.protocols.0 pair) (list_all (λ pair. ports_right span.protocols.0 pair) ports) right in
    and_from (is_selector (selector_with span pair)) (list_all is_selector (map (selector_with span) ports))
    (one_selector span h writable pair parts.0) (all_selectors span h writable ports parts.1)

pub spelled_selectors : (span : TsSpan) → is_span span ≡ true → is_writable span ≡ true → AreSelectors (spelled span)
spelled_selectors span h writable = all_selectors span h writable (ports_of_span span) (ports_are_right span h writable).right

pub spelled_few : (span : TsSpan) → is_span span ≡ true → is_writable span ≡ true → length (spelled span) ≤ 2
spelled_few span h writable =
    let few = (ports_are_right span h writable).few in
    omega (arith, length-map (ports_of_span span) (selector_with span))
