-- What a selector selects is what its span has, and the span's ranges are in order.
use Rattle.std.proofs.Common.{◌≡◌, ℕ, ◌+◌, ◌*◌, ◌/◌, ◌≤◌, ◌&&◌, ◌||◌, Bool, true, false, cond, eqb, leb, Some, None, refl, sym, ap, ◌∙◌, arith}
use Rattle.std.specs.Prelude.{IfSome}
use Rattle.std.proofs.lemmas.Bool.{and_from, and_parts, eq-eqb, eqb-true, le-leb, leb-true}
use Rattle.sel_text.specs.declared.family.Family.{Family}
use Rattle.sel_text.specs.Family.{last_address, same_family}
use Rattle.ts_payload.specs.declared.selector.Ts.{Ts}
use Rattle.ts_payload.specs.Selector.{addresses_in_order, fits_bytes, has_all_ports, has_opaque_ports, is_selector, keeps_rules, ports_in_order}
use Rattle.ts_payload.specs.Selector.{ports_suit_protocol}
use Rattle.ts_span.specs.Span.{fields_of, is_range, is_span, lies_in, protocols_of, selects, selects_field, selects_protocol, span_has, span_with}
use Rattle.ts_span.specs.Span.{types_between}

-- ---- tests that are the same

pub same_test : (x y : Bool) → (x ≡ true → y ≡ true) → (y ≡ true → x ≡ true) → x ≡ y
same_test true true there back = refl
same_test true false there back = sym (there refl)
same_test false true there back = back refl
same_test false false there back = refl

pub record LiesIn (range : ℕ × ℕ) (number : ℕ) : Type 0 where
  pub from : range.0 ≤ number
  pub to : number ≤ range.1

pub lies : (range : ℕ × ℕ) (number : ℕ) → lies_in range number ≡ true → LiesIn range number
lies range number h =
    let p = and_parts (leb range.0 number) (leb number range.1) h in
    record { from = leb-true range.0 number p.0; to = leb-true number range.1 p.1 }

pub lies_from : (range : ℕ × ℕ) (number : ℕ) → LiesIn range number → lies_in range number ≡ true
lies_from range number l = and_from (leb range.0 number) (leb number range.1) (le-leb range.0 number l.from) (le-leb number range.1 l.to)

pub lies_in-one : (one number : ℕ) → lies_in (one, one) number ≡ eqb number one
lies_in-one one number =
    same_test (lies_in (one, one) number) (eqb number one)
    (λ h. let l = lies (one, one) number h in let a = l.from in let b = l.to in eq-eqb number one (omega arith))
    (λ h. let e : number ≡ one = eqb-true number one h in lies_from (one, one) number (record { from = omega arith; to = omega arith }))

pub lies_in-whole : (last number : ℕ) → lies_in (0, last) number ≡ leb number last
lies_in-whole last number =
    same_test (lies_in (0, last) number) (leb number last)
    (λ h. let l = lies (0, last) number h in le-leb number last l.to)
    (λ h. lies_from (0, last) number (record { from = omega arith; to = leb-true number last h }))

-- a type lies between the types exactly where its 256-fold lies between the ports
pub lies_in-types : (start last field : ℕ) → lies_in ((start + 255) / 256, last / 256) field ≡ lies_in (start, last) (256 * field)
lies_in-types start last field =
    same_test (lies_in ((start + 255) / 256, last / 256) field) (lies_in (start, last) (256 * field))
    (λ h.
    let l = lies ((start + 255) / 256, last / 256) field h in
    let a = l.from in
    let b = l.to in
    lies_from (start, last) (256 * field) (record { from = omega arith; to = omega arith }))
    (λ h.
    let l = lies (start, last) (256 * field) h in
    let a = l.from in
    let b = l.to in
    lies_from ((start + 255) / 256, last / 256) field (record { from = omega arith; to = omega arith }))

-- ---- the meaning

protocols_by : (all : Bool) (number protocol : ℕ)
    → lies_in (cond all (0, 256) (number, number)) protocol ≡ cond all (leb protocol 256) (eqb protocol number)
protocols_by true number protocol = lies_in-whole 256 protocol
protocols_by false number protocol = lies_in-one number protocol

pub protocols_selected : (selector : Ts) (protocol : ℕ) → lies_in (protocols_of selector.protocol) protocol ≡ selects_protocol selector protocol
protocols_selected selector protocol = protocols_by (eqb selector.protocol 0) selector.protocol protocol

types_by : (some : Bool) (start last : ℕ)
    → IfSome (cond some (Some ((start + 255) / 256, last / 256)) None) (λ range. (field : ℕ) → lies_in range field ≡ lies_in (start, last) (256 * field))
types_by true start last = lies_in-types start last
types_by false start last = tt

fields_by : (all opaque mobility : Bool) (start last : ℕ)
    → IfSome (cond all (Some (0, 65536)) (cond opaque (Some (65536, 65536)) (cond mobility (types_between start last) (Some (start, last)))))
    (λ range. (field : ℕ) → lies_in range field ≡ cond all (leb field 65536) (cond opaque (eqb field 65536) (cond mobility (lies_in (start, last)
    (256 * field)) (lies_in (start, last) field))))
fields_by true opaque mobility start last = lies_in-whole 65536
fields_by false true mobility start last = lies_in-one 65536
fields_by false false true start last = types_by (leb ((start + 255) / 256) (last / 256)) start last
fields_by false false false start last = λ field. refl

fields_selected : (selector : Ts) → IfSome (fields_of selector) (λ range. (field : ℕ) → lies_in range field ≡ selects_field selector field)
fields_selected selector = fields_by (has_all_ports selector) (has_opaque_ports selector) (eqb selector.protocol 135) selector.start_port selector.«end_port»

pub span_selected : (selector : Ts) (fields : ℕ × ℕ) → fields_of selector ≡ Some fields → (family : Family) (address protocol field : ℕ)
    → span_has (span_with selector fields) family address protocol field ≡ selects selector family address protocol field
span_selected selector fields e family address protocol field =
    let same = rw e at (fields_selected selector) in
    let side = same_family selector.family family && lies_in (selector.start, selector.«end») address in
    ap (λ (b : Bool). side && (b && lies_in fields field)) (protocols_selected selector protocol)
    ∙ ap (λ (b : Bool). side && (selects_protocol selector protocol && b)) (same field)

-- ---- the order

is_range-one : (last number : ℕ) → number ≤ last → is_range last (number, number) ≡ true
is_range-one last number h = and_from (leb number number) (leb number last) (le-leb number number (omega arith)) (le-leb number last h)

protocols_range : (all : Bool) (number : ℕ) → number ≤ 255 → is_range 256 (cond all (0, 256) (number, number)) ≡ true
protocols_range true number h = refl
protocols_range false number h = is_range-one 256 number (omega arith)

types_range : (some : Bool) (low high : ℕ) → leb low high ≡ some → high ≤ 65536 → IfSome (cond some (Some (low, high)) None)
    (λ range. is_range 65536 range ≡ true)
types_range true low high e h = and_from (leb low high) (leb high 65536) e (le-leb high 65536 h)
types_range false low high e h = tt

left_of : (x : Bool) → (x || false) ≡ true → x ≡ true
left_of true h = refl
left_of false h = absurd cc

fields_range : (all opaque mobility : Bool) (start last : ℕ) → (leb start last || opaque) ≡ true → last ≤ 65535
    → IfSome (cond all (Some (0, 65536)) (cond opaque (Some (65536, 65536)) (cond mobility (types_between start last) (Some (start, last)))))
    (λ range. is_range 65536 range ≡ true)
fields_range true opaque mobility start last h fits = refl
fields_range false true mobility start last h fits = refl
fields_range false false true start last h fits =
    types_range (leb ((start + 255) / 256) (last / 256)) ((start + 255) / 256) (last / 256) refl (omega arith)
fields_range false false false start last h fits =
    and_from (leb start last) (leb last 65536) (left_of (leb start last) h) (le-leb last 65536 (omega arith))

pub span_in_order : (selector : Ts) (fields : ℕ × ℕ) → fields_of selector ≡ Some fields → is_selector selector ≡ true
    → is_span (span_with selector fields) ≡ true
span_in_order selector fields e h =
    let last = last_address selector.family in
    let parts = and_parts (fits_bytes selector) (keeps_rules selector) h in
    let rules = and_parts (addresses_in_order selector) (ports_in_order selector && ports_suit_protocol selector) parts.1 in
    let ports = and_parts (ports_in_order selector) (ports_suit_protocol selector) rules.1 in
    let ends = leb selector.start last && leb selector.«end» last in
    let a = and_parts (leb selector.protocol 255) (leb selector.start_port 65535 && (leb selector.end_port 65535 && ends)) parts.0 in
    let b = and_parts (leb selector.start_port 65535) (leb selector.end_port 65535 && ends) a.1 in
    let c = and_parts (leb selector.end_port 65535) ends b.1 in
    let d = and_parts (leb selector.start last) (leb selector.«end» last) c.1 in
    let in_fields = rw e at (fields_range (has_all_ports selector) (has_opaque_ports selector)
    (eqb selector.protocol 135) selector.start_port selector.end_port ports.0 (leb-true selector.end_port 65535 c.0)) in
    and_from (is_range last (selector.start, selector.«end»)) (is_range 256 (protocols_of selector.protocol) && is_range 65536 fields)
    (and_from (leb selector.start selector.«end») (leb selector.«end» last) rules.0 d.1)
    (and_from (is_range 256 (protocols_of selector.protocol)) (is_range 65536 fields)
    (protocols_range (eqb selector.protocol 0) selector.protocol (leb-true selector.protocol 255 a.0)) in_fields)
