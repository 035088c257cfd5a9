-- A line's boxes have the points that the line selects.
use Rattle.std.proofs.Common.{◌≡◌, ℕ, ◌-◌, ◌<◌, min, Bool, true, false, ◌==◌, ◌&&◌, ◌||◌}
use Rattle.std.proofs.Common.{cond, nat_le, nat_lt, List, [], ◌∷◌, map, flat_map, refl, ap₂, ◌∙◌, arith}
use Rattle.std.specs.List.{list_any}
use Rattle.std.proofs.lemmas.Bool.Decides.{nat_tests}
use Rattle.std.proofs.lemmas.List.Folds.{list_any-append}
use Rattle.sel_region.specs.Interval.{Range, range_from, range_has, whole_range}
use Rattle.sel_region.specs.Pair.{pair_has}
use Rattle.sel_box.specs.Boxes.{Values, box_from, box_has, ranges_have, values_of}
use Rattle.sel_box.specs.Class.{opaque_field, opaque_protocol}
use Rattle.sel_box.specs.declared.packet.Direction.{Direction}
use Rattle.sel_text.specs.declared.family.Family.{Family}
use Rattle.sel_text.specs.declared.family.Family.TheVariants.{Four, Six}
use Rattle.sel_text.specs.Family.{address_value, last_address, same_family}
use Rattle.sel_box.specs.Point.{PointFields, is_point}
use Rattle.sel_text.specs.declared.item.AddressItem.{AddressItem}
use Rattle.sel_text.specs.declared.port.PortItem.{PortItem}
use Rattle.spd_line.specs.declared.line.LineParts.{LineParts}
use Rattle.spd_line.specs.declared.line.ProtocolItem.{ProtocolItem}
use Rattle.spd_line.specs.Families.{is_range_of_family}
use Rattle.spd_line.specs.LineBoxes.{address_ranges, any_ranges, family_regions, field_ranges, line_box, line_boxes}
use Rattle.spd_line.specs.LineBoxes.{line_ranges, line_regions, ordered_range, port_ranges, products, protocol_ranges}
use Rattle.spd_line.proofs.ProductLaws.{list_any-and_left, list_any-flat_map, list_any-map, products-has}
use Rattle.spd_line.specs.Selects.{address_has, has_direction, lies_in, port_has, protocol_has, selects}

-- Some range of a list has the number.
abbrev pub some_range : ℕ → List Range → Bool
some_range n ranges = list_any (λ r. range_has r n) ranges

ordered_range-has : (first last n : ℕ) → some_range n (ordered_range first last) ≡ lies_in first last n
ordered_range-has first last n = go (nat_le first last) refl
  where
    go : (in_order : Bool) → nat_le first last ≡ in_order →
        some_range n (cond in_order (range_from first last ∷ []) []) ≡ lies_in first last n
    go true e = grind (arith, nat_tests)
    go false e = grind (arith, nat_tests)

whole_range-has : (last n : ℕ) → nat_le n last ≡ true → some_range n (whole_range last ∷ []) ≡ true
whole_range-has last n within = grind (arith, nat_tests)

one_number-has : (number n : ℕ) → some_range n (range_from number number ∷ []) ≡ (n == number)
one_number-has number n = grind (arith, nat_tests)

any_ranges-has : (flagged : Bool) (opaque n : ℕ) → nat_le n opaque ≡ true → some_range n (any_ranges flagged opaque) ≡ true
any_ranges-has true opaque n within = grind (arith, nat_tests)
any_ranges-has false opaque n within = whole_range-has opaque n within

address_ranges-has : (family : Family) (address : ℕ) → nat_le address (last_address family) ≡ true →
    (item : AddressItem) → some_range address (address_ranges family item) ≡ address_has family address item
address_ranges-has family address within AddressItem.Any = whole_range-has (last_address family) address within
address_ranges-has family address within (AddressItem.Range first last) = go (is_range_of_family family first last)
  where
    go : (there : Bool) →
        some_range address (cond there (ordered_range (address_value first) (address_value last)) [])
        ≡ (there && lies_in (address_value first) (address_value last) address)
    go true = ordered_range-has (address_value first) (address_value last) address
    go false = refl

protocol_ranges-has : (flagged : Bool) (item : ProtocolItem) (protocol : ℕ) → nat_le protocol opaque_protocol ≡ true →
    some_range protocol (protocol_ranges flagged item) ≡ protocol_has item protocol
protocol_ranges-has flagged ProtocolItem.Any protocol within = any_ranges-has flagged opaque_protocol protocol within
protocol_ranges-has flagged ProtocolItem.Opaque protocol within = one_number-has opaque_protocol protocol
protocol_ranges-has flagged (ProtocolItem.Number number) protocol within = one_number-has number protocol

-- numbers up to the one before OPAQUE are numbers below OPAQUE
lies_below : (first last opaque n : ℕ) → 0 < opaque → lies_in first (min last (opaque - 1)) n ≡ (lies_in first last n && nat_lt n opaque)
lies_below first last opaque n some = grind (arith, nat_tests)

port_ranges-has : (flagged : Bool) (field : ℕ) → nat_le field opaque_field ≡ true →
    (item : PortItem) → some_range field (port_ranges flagged item) ≡ port_has field item
port_ranges-has flagged field within PortItem.Any = any_ranges-has flagged opaque_field field within
port_ranges-has flagged field within PortItem.Opaque = one_number-has opaque_field field
port_ranges-has flagged field within (PortItem.Number first last) =
    ordered_range-has first (min last (opaque_field - 1)) field ∙ lies_below first last opaque_field field (omega arith)
port_ranges-has flagged field within (PortItem.TypeCode first last) =
    ordered_range-has first (min last (opaque_field - 1)) field ∙ lies_below first last opaque_field field (omega arith)

-- The five values of a point lie on the axes of its family.
pub record OnAxes (family : Family) (v : Values) : Type 0 where
  pub local : nat_le v.0 (last_address family) ≡ true
  pub remote : nat_le v.1.0 (last_address family) ≡ true
  pub protocol : nat_le v.1.1.0 opaque_protocol ≡ true
  pub local_field : nat_le v.1.1.1.0 opaque_field ≡ true
  pub remote_field : nat_le v.1.1.1.1 opaque_field ≡ true

pub OnAxes-from_point : (x : PointFields) → is_point x ≡ true → OnAxes x.family (values_of x)
OnAxes-from_point x on =
    let parts =
    five_parts (nat_le x.local (last_address x.family)) (nat_le x.remote (last_address x.family)) (nat_le x.protocol opaque_protocol)
    (nat_le x.local_field opaque_field) (nat_le x.remote_field opaque_field) on in
    record { local = parts.0; remote = parts.1; protocol = parts.2; local_field = parts.3; remote_field = parts.4 }
  where
    five_parts : (a b c d e : Bool) → (a && b && c && d && e) ≡ true → (a ≡ true) × (b ≡ true) × (c ≡ true) × (d ≡ true) × (e ≡ true)
    five_parts a b c d e h = (grind arith, grind arith, grind arith, grind arith, grind arith)

-- Some ranges of a line in a family have the values exactly where each of its selectors has its own.
abbrev selectors_have : Family → LineParts → Values → Bool
selectors_have family line v =
    list_any (address_has family v.0) line.local
    && (list_any (address_has family v.1.0) line.remote
    && (protocol_has line.protocol v.1.1.0
    && (list_any (port_has v.1.1.1.0) line.local_port && list_any (port_has v.1.1.1.1) line.remote_port)))

line_ranges-has : (family : Family) (line : LineParts) (v : Values) → OnAxes family v →
    list_any (λ r. ranges_have r v) (line_ranges family line) ≡ selectors_have family line v
unfolding line_ranges
line_ranges-has family line v on =
    products-has range_has (pair_has range_has (pair_has range_has (pair_has range_has range_has))) v (flat_map (address_ranges family) line.local)
    (products (flat_map (address_ranges family) line.remote) (field_ranges line))
    ∙ ap₂ (λ a b. a && b)
    (list_any-flat_map (λ r. range_has r v.0) (address_ranges family) (address_has family v.0) (address_ranges-has family v.0 on.local) line.local)
    (products-has range_has (pair_has range_has (pair_has range_has range_has)) v.1 (flat_map (address_ranges family) line.remote) (field_ranges line)
    ∙ ap₂ (λ a b. a && b)
    (list_any-flat_map (λ r. range_has r v.1.0) (address_ranges family) (address_has family v.1.0) (address_ranges-has family v.1.0 on.remote) line.remote)
    (products-has range_has (pair_has range_has range_has) v.1.1 (protocol_ranges line.pfp.protocol line.protocol)
    (products (flat_map (port_ranges line.pfp.local_port) line.local_port) (flat_map (port_ranges line.pfp.remote_port) line.remote_port))
    ∙ ap₂ (λ a b. a && b) (protocol_ranges-has line.pfp.protocol line.protocol v.1.1.0 on.protocol)
    (products-has range_has range_has v.1.1.1 (flat_map (port_ranges line.pfp.local_port) line.local_port)
    (flat_map (port_ranges line.pfp.remote_port) line.remote_port)
    ∙ ap₂ (λ a b. a && b)
    (list_any-flat_map (λ r. range_has r v.1.1.1.0) (port_ranges line.pfp.local_port) (port_has v.1.1.1.0)
    (port_ranges-has line.pfp.local_port v.1.1.1.0 on.local_field) line.local_port)
    (list_any-flat_map (λ r. range_has r v.1.1.1.1) (port_ranges line.pfp.remote_port) (port_has v.1.1.1.1)
    (port_ranges-has line.pfp.remote_port v.1.1.1.1 on.remote_field) line.remote_port))))

family_regions-has : (family : Family) (line : LineParts) (x : PointFields) →
    list_any (λ b. box_has b x) (family_regions family line)
    ≡ (same_family family x.family && list_any (λ r. ranges_have r (values_of x)) (line_ranges family line))
family_regions-has Four line x =
    list_any-map (λ b. box_has b x) (box_from Four) (line_ranges Four line)
    ∙ list_any-and_left (same_family Four x.family) (λ r. ranges_have r (values_of x)) (line_ranges Four line)
family_regions-has Six line x =
    list_any-map (λ b. box_has b x) (box_from Six) (line_ranges Six line)
    ∙ list_any-and_left (same_family Six x.family) (λ r. ranges_have r (values_of x)) (line_ranges Six line)

-- Of what is said of each family, that of the point's counts alone.
of_family : (said : Family → Bool) (family : Family) → ((same_family Four family && said Four) || (same_family Six family && said Six)) ≡ said family
of_family said Four = go (said Four)
  where
    go : (b : Bool) → (b || false) ≡ b
    go true = refl
    go false = refl
of_family said Six = refl

line_regions-has : (line : LineParts) (x : PointFields) → is_point x ≡ true →
    list_any (λ b. box_has b x) (line_regions line) ≡ selectors_have x.family line (values_of x)
line_regions-has line x on =
    list_any-append (λ b. box_has b x) (family_regions Four line) (family_regions Six line)
    ∙ ap₂ (λ a b. a || b) (family_regions-has Four line x) (family_regions-has Six line x)
    ∙ of_family (λ family. list_any (λ r. ranges_have r (values_of x)) (line_ranges family line)) x.family
    ∙ line_ranges-has x.family line (values_of x) (OnAxes-from_point x on)

-- Some box of a line has a point exactly where the line selects it.
pub line_boxes-has : (d : Direction) (x : PointFields) (line : LineParts) → is_point x ≡ true →
    list_any (λ b. box_has b.region x) (line_boxes d line) ≡ selects d x line
line_boxes-has d x line on = go (has_direction line.way d)
  where
    regroup : (a b c d e : Bool) → (a && (b && (c && (d && e)))) ≡ (true && a && b && c && d && e)
    regroup a b c d e = grind arith

    go : (there : Bool) →
        list_any (λ b. box_has b.region x) (cond there (map (line_box d line) (line_regions line)) []) ≡ (there
        && list_any (address_has x.family x.local) line.local
        && list_any (address_has x.family x.remote) line.remote
        && protocol_has line.protocol x.protocol
        && list_any (port_has x.local_field) line.local_port
        && list_any (port_has x.remote_field) line.remote_port)
    go true =
        list_any-map (λ b. box_has b.region x) (line_box d line) (line_regions line)
        ∙ line_regions-has line x on
        ∙ regroup (list_any (address_has x.family x.local) line.local) (list_any (address_has x.family x.remote) line.remote)
        (protocol_has line.protocol x.protocol) (list_any (port_has x.local_field) line.local_port) (list_any (port_has x.remote_field) line.remote_port)
    go false = refl
