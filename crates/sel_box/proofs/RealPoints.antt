-- Each real point lies on the axes.
use Rattle.std.proofs.Common.{◌≡◌, ℕ, ◌≤◌, Bool, true, false, ◌==◌, ◌&&◌, ◌||◌, cond, nat_le, subst, arith}
use Rattle.std.proofs.lemmas.Bool.Decides.{nat_tests}
use Rattle.sel_box.specs.Class.{fields_fit, greatest_field, has_one_field, has_two_ports, opaque_field, opaque_protocol}
use Rattle.sel_box.specs.declared.packet.Direction.{Direction}
use Rattle.sel_box.specs.declared.packet.Direction.TheVariants.{Outbound, Inbound}
use Rattle.sel_text.specs.declared.family.Family.{Family}
use Rattle.sel_text.specs.declared.family.Family.TheVariants.{Four, Six}
use Rattle.sel_box.specs.Packet.{PacketFields, is_packet, protocol_fits}
use Rattle.sel_text.specs.Family.{last_address}
use Rattle.sel_box.specs.Point.{IsReal, PointFields, is_point, view_of}
use Rattle.sel_box.proofs.BoxPackets.{is_packet-parts, test_from_le}

numbers_or_opaque : (a b : ℕ) (top opaque : ℕ) → top ≤ opaque → ((nat_le a top && nat_le b top) || ((a == opaque) && (b == opaque))) ≡ true →
    (nat_le a opaque ≡ true) × (nat_le b opaque ≡ true)
numbers_or_opaque a b top opaque le h = (grind (arith, nat_tests), grind (arith, nat_tests))

number_or_opaque : (a b : ℕ) (top opaque : ℕ) → top ≤ opaque → ((nat_le a top || (a == opaque)) && (b == opaque)) ≡ true →
    (nat_le a opaque ≡ true) × (nat_le b opaque ≡ true)
number_or_opaque a b top opaque le h = (grind (arith, nat_tests), grind (arith, nat_tests))

both_opaque : (a b opaque : ℕ) → ((a == opaque) && (b == opaque)) ≡ true → (nat_le a opaque ≡ true) × (nat_le b opaque ≡ true)
both_opaque a b opaque h = (grind (arith, nat_tests), grind (arith, nat_tests))

-- The fields that a packet shows are numbers or OPAQUE.
fields_on_axis : (protocol source destination : ℕ) → fields_fit protocol source destination ≡ true →
    (nat_le source opaque_field ≡ true) × (nat_le destination opaque_field ≡ true)
fields_on_axis protocol source destination =
    go (has_two_ports protocol) (has_one_field protocol) (greatest_field protocol) (top (protocol == 135))
  where
    top : (short : Bool) → cond short 255 65535 ≤ opaque_field
    top true = omega arith
    top false = omega arith

    go : (two one : Bool) (greatest : ℕ) → greatest ≤ opaque_field →
        cond two
        ((nat_le source 65535 && nat_le destination 65535) || ((source == opaque_field) && (destination == opaque_field)))
        (cond one
        ((nat_le source greatest || (source == opaque_field)) && (destination == opaque_field))
        ((source == opaque_field) && (destination == opaque_field))) ≡ true →
        (nat_le source opaque_field ≡ true) × (nat_le destination opaque_field ≡ true)
    go true one greatest le h = numbers_or_opaque source destination 65535 opaque_field (omega arith) h
    go false true greatest le h = number_or_opaque source destination greatest opaque_field le h
    go false false greatest le h = both_opaque source destination opaque_field h

protocol_on_axis : (family : Family) (protocol : ℕ) → protocol_fits family protocol ≡ true → nat_le protocol opaque_protocol ≡ true
protocol_on_axis Four protocol h = grind (arith, nat_tests)
protocol_on_axis Six protocol h = h

pub view_on_axes : (d : Direction) (p : PacketFields) → is_packet p ≡ true → is_point (view_of d p) ≡ true
view_on_axes d p h =
    let values = is_packet-parts p h in
    let fields = fields_on_axis p.protocol p.source_field p.destination_field values.fields in
    let protocol = protocol_on_axis p.family p.protocol values.protocol in
    go d (test_from_le _ _ values.source) (test_from_le _ _ values.destination) protocol fields.0 fields.1
  where
    all_five : (a b c e f : Bool) → a ≡ true → b ≡ true → c ≡ true → e ≡ true → f ≡ true → (a && b && c && e && f) ≡ true
    all_five a b c e f ha hb hc he hf = grind arith

    go : (d : Direction) → nat_le p.source (last_address p.family) ≡ true → nat_le p.destination (last_address p.family) ≡ true →
        nat_le p.protocol opaque_protocol ≡ true → nat_le p.source_field opaque_field ≡ true → nat_le p.destination_field opaque_field ≡ true →
        is_point (view_of d p) ≡ true
    go Outbound source destination protocol source_field destination_field =
        all_five _ _ _ _ _ source destination protocol source_field destination_field
    go Inbound source destination protocol source_field destination_field =
        all_five _ _ _ _ _ destination source protocol destination_field source_field

pub is_point-from_real : (x : PointFields) → IsReal x → is_point x ≡ true
is_point-from_real x (d, (p, (packet, same))) = subst (λ (y : PointFields). is_point y ≡ true) same (view_on_axes d p packet)
