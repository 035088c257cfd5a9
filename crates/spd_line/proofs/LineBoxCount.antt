-- The boxes of a line are never more than are counted of its selectors, and as many where its items are in order.
use Rattle.std.proofs.Common.{◌≡◌, ℕ, ◌+◌, ◌-◌, ◌*◌, ◌≤◌, min, Bool, true, false, cond, nat_le}
use Rattle.std.proofs.Common.{length, List, [], ◌∷◌, map, ◌++◌, flat_map, refl, sym, ap₂, ◌∙◌, arith}
use Rattle.std.specs.List.{All, count_by, sum_by}
use Rattle.std.proofs.lemmas.Bool.Decides.{nat_tests}
use Rattle.std.proofs.lemmas.List.{length-append, length-map}
use Rattle.std.proofs.lemmas.List.Elements.{All-head, All-tail}
use Rattle.std.proofs.lemmas.List.Sums.{sum_by-cons}
use Rattle.std.proofs.lemmas.Nat.{mul-le}
use Rattle.sel_region.specs.Interval.{range_from}
use Rattle.sel_box.specs.Boxes.{box_from}
use Rattle.sel_box.specs.Class.{opaque_field, opaque_protocol}
use Rattle.sel_box.specs.declared.packet.Direction.{Direction}
use Rattle.sel_text.specs.declared.address.Address.{Address}
use Rattle.sel_text.specs.declared.family.Family.{Family}
use Rattle.sel_text.specs.declared.family.Family.TheVariants.{Four, Six}
use Rattle.sel_text.specs.declared.item.AddressItem.{AddressItem}
use Rattle.sel_text.specs.declared.port.PortItem.{PortItem}
use Rattle.sel_text.specs.Item as item
use Rattle.spd_line.specs.declared.line.LineParts.{LineParts}
use Rattle.spd_line.specs.declared.line.ProtocolItem.{ProtocolItem}
use Rattle.spd_line.specs.Families.{is_of_family}
use Rattle.spd_line.specs.LineBoxes.{address_ranges, any_ranges, family_regions, field_ranges, line_box, line_boxes}
use Rattle.spd_line.specs.LineBoxes.{line_ranges, line_regions, ordered_range, port_ranges, products, protocol_ranges}
use Rattle.spd_line.specs.Selects.{has_direction}
use Rattle.spd_line.specs.Width.{AreInOrder, IsPort, box_count, item_parts, port_parts, protocol_parts}
use Rattle.spd_line.proofs.ProductLaws.{length-products}

-- So many are found: never more than are counted, and as many under the premise.
pub record Counted (Sound : Type 0) (found most : ℕ) : Type 0 where
  pub few : found ≤ most
  pub all : Sound → found ≡ most

exactly : (Sound : Type 0) (found most : ℕ) → found ≡ most → Counted Sound found most
exactly Sound found most same = record { few = omega arith; all = λ sound. same }

weaker : (Sound Less : Type 0) (found most : ℕ) → (Sound → Less) → Counted Less found most → Counted Sound found most
weaker Sound Less found most gives counted = record { few = counted.few; all = λ sound. counted.all (gives sound) }

ordered_range-counted : (first last : ℕ) → Counted (first ≤ last) (length (ordered_range first last)) 1
ordered_range-counted first last = go (nat_le first last) refl
  where
    go : (in_order : Bool) → nat_le first last ≡ in_order →
        Counted (first ≤ last) (length (cond in_order (range_from first last ∷ []) [])) 1
    go true is = record { few = omega arith; all = λ le. omega arith }
    go false is = record { few = omega arith; all = λ le. grind (arith, nat_tests) }

address_ranges-counted : (family : Family) (of : AddressItem) →
    Counted (item.AreAddressesInOrder of) (length (address_ranges family of)) (cond (is_of_family family of) 1 0)
address_ranges-counted family AddressItem.Any = exactly _ _ _ refl
address_ranges-counted Four (AddressItem.Range (Address.Four first) (Address.Four last)) = ordered_range-counted first last
address_ranges-counted Six (AddressItem.Range (Address.Six first) (Address.Six last)) = ordered_range-counted first last
address_ranges-counted Four (AddressItem.Range (Address.Six first) (Address.Six last)) = exactly _ _ _ refl
address_ranges-counted Six (AddressItem.Range (Address.Four first) (Address.Four last)) = exactly _ _ _ refl
address_ranges-counted Four (AddressItem.Range (Address.Six first) (Address.Four last)) = exactly _ _ _ refl
address_ranges-counted Six (AddressItem.Range (Address.Four first) (Address.Six last)) = exactly _ _ _ refl
address_ranges-counted Four (AddressItem.Range (Address.Four first) (Address.Six last)) = record { few = omega arith; all = λ none. absurd none }
address_ranges-counted Six (AddressItem.Range (Address.Six first) (Address.Four last)) = record { few = omega arith; all = λ none. absurd none }

any_ranges-counted : (flagged : Bool) (opaque : ℕ) → length (any_ranges flagged opaque) ≡ cond flagged 2 1
any_ranges-counted true opaque = refl
any_ranges-counted false opaque = refl

protocol_ranges-counted : (flagged : Bool) (of : ProtocolItem) → length (protocol_ranges flagged of) ≡ protocol_parts flagged of
protocol_ranges-counted flagged ProtocolItem.Any = any_ranges-counted flagged opaque_protocol
protocol_ranges-counted flagged ProtocolItem.Opaque = refl
protocol_ranges-counted flagged (ProtocolItem.Number number) = refl

-- A range of ports up to 65535 isn't cut.
ports-counted : (first last : ℕ) → Counted ((first ≤ last) × (last ≤ 65535)) (length (ordered_range first (min last (opaque_field - 1)))) 1
ports-counted first last =
    weaker _ _ _ _ (λ of. within of.0 of.1) (ordered_range-counted first (min last (opaque_field - 1)))
  where
    within : first ≤ last → last ≤ 65535 → first ≤ min last (opaque_field - 1)
    within le top = omega arith

port_ranges-counted : (flagged : Bool) (of : PortItem) → Counted (IsPort of) (length (port_ranges flagged of)) (item_parts flagged of)
port_ranges-counted flagged PortItem.Any = exactly _ _ _ (any_ranges-counted flagged opaque_field)
port_ranges-counted flagged PortItem.Opaque = exactly _ _ _ refl
port_ranges-counted flagged (PortItem.Number first last) = ports-counted first last
port_ranges-counted flagged (PortItem.TypeCode first last) = ports-counted first last

flat_map-counted : {X Y : Type 0} (Sound : X → Type 0) (f : X → List Y) (most : X → ℕ) (xs : List X) →
    ((x : X) → Counted (Sound x) (length (f x)) (most x)) → Counted (All Sound xs) (length (flat_map f xs)) (sum_by most xs)
flat_map-counted Sound f most [] each = exactly _ _ _ refl
flat_map-counted Sound f most (x ∷ xs) each =
    let rest = flat_map-counted Sound f most xs each in
    let all : length (f x ++ flat_map f xs) ≡ length (f x) + length (flat_map f xs) = length-append (f x) (flat_map f xs) in
    let count : sum_by most (x ∷ xs) ≡ most x + sum_by most xs = sum_by-cons most x xs in
    let few_here : length (f x) ≤ most x = (each x).few in
    let few_rest : length (flat_map f xs) ≤ sum_by most xs = rest.few in
    record {
      few = omega arith;
      all = λ sound. all ∙ ap₂ (λ a b. a + b) ((each x).all (All-head Sound x xs sound)) (rest.all (All-tail Sound x xs sound)) ∙ sym count;
    }

-- Products of two lists that are counted.
products-counted : {R S : Type 0} (First Second : Type 0) (firsts : List R) (seconds : List S) (most_first most_second : ℕ) →
    Counted First (length firsts) most_first → Counted Second (length seconds) most_second →
    Counted (First × Second) (length (products firsts seconds)) (most_first * most_second)
products-counted First Second firsts seconds most_first most_second first second =
    let all = length-products firsts seconds in
    record {
      few = rw all (mul-le (length firsts) (length seconds) most_first most_second first.few second.few);
      all = λ sound. all ∙ ap₂ (λ a b. a * b) (first.all sound.0) (second.all sound.1);
    }

abbrev field_parts : LineParts → ℕ
field_parts line =
    protocol_parts line.pfp.protocol line.protocol
    * (port_parts line.pfp.local_port line.local_port * port_parts line.pfp.remote_port line.remote_port)

field_ranges-counted : (line : LineParts) → Counted (AreInOrder line) (length (field_ranges line)) (field_parts line)
field_ranges-counted line =
    weaker _ _ _ _ (λ sound. (tt, (sound.local_port, sound.remote_port)))
    (products-counted (Unit {0}) (All IsPort line.local_port × All IsPort line.remote_port)
    (protocol_ranges line.pfp.protocol line.protocol) _ _ _
    (exactly _ _ _ (protocol_ranges-counted line.pfp.protocol line.protocol))
    (products-counted (All IsPort line.local_port) (All IsPort line.remote_port) _ _ _ _
    (flat_map-counted IsPort (port_ranges line.pfp.local_port) (item_parts line.pfp.local_port) line.local_port (port_ranges-counted line.pfp.local_port))
    (flat_map-counted IsPort (port_ranges line.pfp.remote_port) (item_parts line.pfp.remote_port) line.remote_port (port_ranges-counted line.pfp.remote_port))))

-- The addresses of a selector, of which each item has at most one range of the family.
addresses-counted : (family : Family) (items : List AddressItem) →
    Counted (All item.AreAddressesInOrder items) (length (flat_map (address_ranges family) items)) (count_by (is_of_family family) items)
addresses-counted family items =
    flat_map-counted item.AreAddressesInOrder (address_ranges family) (λ of. cond (is_of_family family of) 1 0) items (address_ranges-counted family)

line_ranges-counted : (family : Family) (line : LineParts) →
    Counted (AreInOrder line) (length (line_ranges family line))
    (count_by (is_of_family family) line.local * (count_by (is_of_family family) line.remote * field_parts line))
unfolding line_ranges
line_ranges-counted family line =
    weaker _ _ _ _ (λ sound. (sound.local, (sound.remote, sound)))
    (products-counted (All item.AreAddressesInOrder line.local) (All item.AreAddressesInOrder line.remote × AreInOrder line) _ _ _ _
    (addresses-counted family line.local)
    (products-counted (All item.AreAddressesInOrder line.remote) (AreInOrder line) _ _ _ _ (addresses-counted family line.remote) (field_ranges-counted line)))

line_regions-counted : (line : LineParts) → Counted (AreInOrder line) (length (line_regions line)) (box_count line)
line_regions-counted line =
    let all = length-append (family_regions Four line) (family_regions Six line) in
    let four_count = length-map (line_ranges Four line) (box_from Four) in
    let six_count = length-map (line_ranges Six line) (box_from Six) in
    both (count_by (is_of_family Four) line.local) (count_by (is_of_family Four) line.remote)
    (count_by (is_of_family Six) line.local) (count_by (is_of_family Six) line.remote)
    (field_parts line) _ _ _ (line_ranges-counted Four line) (line_ranges-counted Six line) (all ∙ ap₂ (λ a b. a + b) four_count six_count)
  where
    both : (a b c d f four six all : ℕ) → Counted (AreInOrder line) four (a * (b * f)) → Counted (AreInOrder line) six (c * (d * f)) →
        all ≡ four + six → Counted (AreInOrder line) all ((a * b + c * d) * f)
    both a b c d f four six all of_four of_six sum = record {
      few = omega arith;
      all = λ sound. let here = of_four.all sound in let there = of_six.all sound in omega arith;
    }

-- The boxes of a line are at most the count that its refusal as too wide goes by.
pub line_boxes-few : (d : Direction) (line : LineParts) → length (line_boxes d line) ≤ box_count line
line_boxes-few d line = go (has_direction line.way d)
  where
    go : (there : Bool) → length (cond there (map (line_box d line) (line_regions line)) []) ≤ box_count line
    go true = rw (length-map (line_regions line) (line_box d line)) (line_regions-counted line).few
    go false = omega arith

-- In a direction of the line they are as many, where its items are in order.
pub line_boxes-all : (d : Direction) (line : LineParts) → has_direction line.way d ≡ true → AreInOrder line →
    length (line_boxes d line) ≡ box_count line
line_boxes-all d line there sound =
    rw there (length-map (line_regions line) (line_box d line) ∙ (line_regions-counted line).all sound)
