-- A line judges all points of one of its boxes alike.
use Rattle.std.proofs.Common.{◌≡◌, ℕ, ◌-◌, ◌<◌, ◌≤◌, min, Bool, true, false, ◌==◌, ◌&&◌, ◌||◌, cond, nat_le, [], ◌∷◌, map, refl, arith}
use Rattle.std.specs.List.{All}
use Rattle.std.proofs.lemmas.Bool.{and_parts, leb-true}
use Rattle.std.proofs.lemmas.Bool.Decides.{nat_tests}
use Rattle.std.proofs.lemmas.List.Elements.{All-append, All-cons, All-map, All-nil, All-weaker}
use Rattle.sel_region.specs.declared.pair.Pair.{Pair}
use Rattle.sel_region.specs.Interval.{Range, high_of, range_from, range_has, whole_range}
use Rattle.sel_box.specs.BoxRegion.{box_low}
use Rattle.sel_box.specs.Boxes.{Ranges, box_from, box_has, values_of, ranges_have}
use Rattle.sel_text.specs.Family.{same_family}
use Rattle.sel_box.specs.Class.{opaque_field, opaque_protocol}
use Rattle.sel_box.specs.declared.packet.Direction.{Direction}
use Rattle.sel_text.specs.declared.family.Family.{Family}
use Rattle.sel_text.specs.declared.family.Family.TheVariants.{Four, Six}
use Rattle.sel_box.specs.Point.{PointFields}
use Rattle.sel_text.specs.declared.port.PortItem.{PortItem}
use Rattle.spd_line.specs.declared.judgement.Judgement.{Judgement}
use Rattle.spd_line.specs.declared.line.LineParts.{LineParts}
use Rattle.spd_line.specs.declared.line.ProtocolItem.{ProtocolItem}
use Rattle.spd_line.specs.declared.line_boxes.LineBox.{LineBox}
use Rattle.spd_line.specs.Judged.{judged, judgement_of}
use Rattle.spd_line.specs.LineBoxes.{any_ranges, family_regions, field_ranges, line_box, line_boxes}
use Rattle.spd_line.specs.LineBoxes.{line_ranges, line_regions, ordered_range, port_ranges, protocol_ranges}
use Rattle.spd_line.proofs.ProductLaws.{All-flat_map, All-products}
use Rattle.spd_line.specs.Selects.{has_direction}

-- Where the selector is flagged, a number of the range is OPAQUE exactly where its least number is.
abbrev pub LikeLow : Bool → ℕ → Range → Type 0
LikeLow flagged opaque r = (n : ℕ) → range_has r n ≡ true → (flagged && (r.low == opaque)) ≡ (flagged && (n == opaque))

one_number-like : (flagged : Bool) (opaque number : ℕ) → LikeLow flagged opaque (range_from number number)
one_number-like flagged opaque number n has =
    let same : n ≡ number = grind (arith, nat_tests) in
    rw same refl

below-like : (flagged : Bool) (opaque : ℕ) (r : Range) → high_of r < opaque → LikeLow flagged opaque r
below-like flagged opaque r below n has =
    let low : (r.low == opaque) ≡ false = grind (arith, nat_tests) in
    let here : (n == opaque) ≡ false = grind (arith, nat_tests) in
    rw (low, here) refl

any_ranges-like : (flagged : Bool) (opaque : ℕ) → 0 < opaque → All (LikeLow flagged opaque) (any_ranges flagged opaque)
any_ranges-like true opaque some =
    All-cons (LikeLow true opaque) (range_from 0 (opaque - 1)) (range_from opaque opaque ∷ [])
    (below-like true opaque (range_from 0 (opaque - 1)) (omega arith))
    (All-cons (LikeLow true opaque) (range_from opaque opaque) [] (one_number-like true opaque opaque) (All-nil (LikeLow true opaque)))
any_ranges-like false opaque some =
    All-cons (LikeLow false opaque) (whole_range opaque) [] (λ n has. refl) (All-nil (LikeLow false opaque))

ordered_range-like : (flagged : Bool) (opaque first last : ℕ) → last < opaque → All (LikeLow flagged opaque) (ordered_range first last)
ordered_range-like flagged opaque first last below = go (nat_le first last) refl
  where
    go : (in_order : Bool) → nat_le first last ≡ in_order → All (LikeLow flagged opaque) (cond in_order (range_from first last ∷ []) [])
    go true e =
        let le : first ≤ last = leb-true first last e in
        All-cons (LikeLow flagged opaque) (range_from first last) [] (below-like flagged opaque (range_from first last) (omega arith))
        (All-nil (LikeLow flagged opaque))
    go false e = All-nil (LikeLow flagged opaque)

protocol_ranges-like : (flagged : Bool) (item : ProtocolItem) → All (LikeLow flagged opaque_protocol) (protocol_ranges flagged item)
protocol_ranges-like flagged ProtocolItem.Any = any_ranges-like flagged opaque_protocol (omega arith)
protocol_ranges-like flagged ProtocolItem.Opaque =
    All-cons (LikeLow flagged opaque_protocol) (range_from opaque_protocol opaque_protocol) [] (one_number-like flagged opaque_protocol opaque_protocol)
    (All-nil (LikeLow flagged opaque_protocol))
protocol_ranges-like flagged (ProtocolItem.Number number) =
    All-cons (LikeLow flagged opaque_protocol) (range_from number number) [] (one_number-like flagged opaque_protocol number)
    (All-nil (LikeLow flagged opaque_protocol))

port_ranges-like : (flagged : Bool) (item : PortItem) → All (LikeLow flagged opaque_field) (port_ranges flagged item)
port_ranges-like flagged PortItem.Any = any_ranges-like flagged opaque_field (omega arith)
port_ranges-like flagged PortItem.Opaque =
    All-cons (LikeLow flagged opaque_field) (range_from opaque_field opaque_field) [] (one_number-like flagged opaque_field opaque_field)
    (All-nil (LikeLow flagged opaque_field))
port_ranges-like flagged (PortItem.Number first last) = ordered_range-like flagged opaque_field first (min last (opaque_field - 1)) (omega arith)
port_ranges-like flagged (PortItem.TypeCode first last) = ordered_range-like flagged opaque_field first (min last (opaque_field - 1)) (omega arith)

-- So each range that a line's flags look at.
abbrev FieldsLike : LineParts → Pair Range (Pair Range Range) → Type 0
FieldsLike line r =
    LikeLow line.pfp.protocol opaque_protocol r.first
    × (LikeLow line.pfp.local_port opaque_field r.second.first × LikeLow line.pfp.remote_port opaque_field r.second.second)

abbrev RangesLike : LineParts → Ranges → Type 0
RangesLike line r = Unit {0} × (Unit {0} × FieldsLike line r.second.second)

field_ranges-like : (line : LineParts) → All (FieldsLike line) (field_ranges line)
field_ranges-like line =
    All-products (LikeLow line.pfp.protocol opaque_protocol)
    (λ (r : Pair Range Range). LikeLow line.pfp.local_port opaque_field r.first × LikeLow line.pfp.remote_port opaque_field r.second)
    (protocol_ranges line.pfp.protocol line.protocol) _
    (protocol_ranges-like line.pfp.protocol line.protocol)
    (All-products (LikeLow line.pfp.local_port opaque_field) (LikeLow line.pfp.remote_port opaque_field) _ _
    (All-flat_map (LikeLow line.pfp.local_port opaque_field) (port_ranges line.pfp.local_port) (port_ranges-like line.pfp.local_port) line.local_port)
    (All-flat_map (LikeLow line.pfp.remote_port opaque_field) (port_ranges line.pfp.remote_port) (port_ranges-like line.pfp.remote_port) line.remote_port))

line_ranges-like : (family : Family) (line : LineParts) → All (RangesLike line) (line_ranges family line)
unfolding line_ranges
line_ranges-like family line =
    All-products (λ (r : Range). Unit {0}) (λ (r : Pair Range (Pair Range (Pair Range Range))). Unit {0} × FieldsLike line r.second) _ _
    (λ k d below. tt)
    (All-products (λ (r : Range). Unit {0}) (FieldsLike line) _ _ (λ k d below. tt) (field_ranges-like line))

-- Where the three tests of the flags answer alike, so does the judgement.
alike : {X : Type 0} (a b c a' b' c' : Bool) (y z : X) → a ≡ a' → b ≡ b' → c ≡ c' → cond (a || b || c) y z ≡ cond (a' || b' || c') y z
alike a b c a' b' c' y z e f g = rw (e, f, g) refl

judged_at_low : (d : Direction) (line : LineParts) (family : Family) (r : Ranges) (x : PointFields) → RangesLike line r →
    ranges_have r (values_of x) ≡ true → judged d (box_low (box_from family r)) line ≡ judged d x line
judged_at_low d line family r x like has =
    let local = and_parts (range_has r.first x.local) _ has in
    let remote = and_parts (range_has r.second.first x.remote) _ local.1 in
    let protocol = and_parts (range_has r.second.second.first x.protocol) _ remote.1 in
    let fields = and_parts (range_has r.second.second.second.first x.local_field) (range_has r.second.second.second.second x.remote_field) protocol.1 in
    go family (like.1.1.0 x.protocol protocol.0) (like.1.1.1.0 x.local_field fields.0) (like.1.1.1.1 x.remote_field fields.1)
  where
    go : (family : Family) →
        (line.pfp.protocol && (r.second.second.first.low == opaque_protocol)) ≡ (line.pfp.protocol && (x.protocol == opaque_protocol)) →
        (line.pfp.local_port && (r.second.second.second.first.low == opaque_field)) ≡ (line.pfp.local_port && (x.local_field == opaque_field)) →
        (line.pfp.remote_port && (r.second.second.second.second.low == opaque_field)) ≡ (line.pfp.remote_port && (x.remote_field == opaque_field)) →
        judged d (box_low (box_from family r)) line ≡ judged d x line
    go Four e f g = alike _ _ _ _ _ _ Judgement.Discard (judgement_of d line.action) e f g
    go Six e f g = alike _ _ _ _ _ _ Judgement.Discard (judgement_of d line.action) e f g

family_regions-judged : (d : Direction) (x : PointFields) (line : LineParts) (family : Family) →
    All (λ b. box_has b x ≡ true → judged d (box_low b) line ≡ judged d x line) (family_regions family line)
family_regions-judged d x line family =
    All-map (λ b. box_has b x ≡ true → judged d (box_low b) line ≡ judged d x line) (box_from family) (line_ranges family line)
    (All-weaker (RangesLike line) (λ r. box_has (box_from family r) x ≡ true → judged d (box_low (box_from family r)) line ≡ judged d x line)
    (λ r like has. judged_at_low d line family r x like (in_ranges family r has))
    (line_ranges family line) (line_ranges-like family line))
  where
    in_ranges : (family : Family) (r : Ranges) → box_has (box_from family r) x ≡ true → ranges_have r (values_of x) ≡ true
    in_ranges Four r has = (and_parts (same_family Four x.family) _ has).1
    in_ranges Six r has = (and_parts (same_family Six x.family) _ has).1

-- Each box of a line that has a point carries the line's judgement of it.
pub line_boxes-judged : (d : Direction) (x : PointFields) (line : LineParts) →
    All (λ b. box_has b.region x ≡ true → b.judgement ≡ judged d x line) (line_boxes d line)
line_boxes-judged d x line = go (has_direction line.way d)
  where
    go : (there : Bool) → All (λ b. box_has b.region x ≡ true → b.judgement ≡ judged d x line) (cond there (map (line_box d line) (line_regions line)) [])
    go true =
        All-map (λ (b : LineBox). box_has b.region x ≡ true → b.judgement ≡ judged d x line) (line_box d line) (line_regions line)
        (All-append (λ b. box_has b x ≡ true → judged d (box_low b) line ≡ judged d x line) (family_regions Four line) (family_regions Six line)
        (family_regions-judged d x line Four) (family_regions-judged d x line Six))
    go false = All-nil (λ (b : LineBox). box_has b.region x ≡ true → b.judgement ≡ judged d x line)
