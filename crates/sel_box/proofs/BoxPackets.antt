-- Packets whose views lie in a box, by what they show in its ranges.
use Rattle.std.proofs.Common.{◌≡◌, ℕ, ◌≤◌, Bool, true, false, ◌&&◌, ◌||◌, nat_le, inl, inr, ◌↔◌, IsTrue, if◌then◌else◌, Option, Some, None, sym, refl, ap, ◌∙◌}
use Rattle.std.proofs.Common.{subst, arith}
use Rattle.std.proofs.lemmas.Bool.{and_from, and_parts, both_ways, or_cases}
use Rattle.std.proofs.lemmas.Bool.Decides.{nat_tests}
use Rattle.sel_region.specs.Interval.{Range, range_has}
use Rattle.sel_box.specs.declared.any_box.AnyBox.{AnyBox}
use Rattle.sel_box.specs.declared.any_box.AxisName.{AxisName}
use Rattle.sel_box.specs.declared.packet.Direction.{Direction}
use Rattle.sel_box.specs.declared.packet.Direction.TheVariants.{Outbound, Inbound}
use Rattle.sel_box.specs.declared.shown.PacketRanges.{PacketRanges}
use Rattle.sel_box.specs.declared.shown.Shown.{Shown}
use Rattle.sel_box.specs.Boxes.{box_has, family_of, range_at, ranges_have, ranges_of, values_of}
use Rattle.sel_text.specs.Family.{same_family}
use Rattle.sel_box.specs.laws.BoxLaws.{equal_from_same, same_family-refl}
use Rattle.sel_box.specs.Class.{fields_fit}
use Rattle.sel_box.specs.LeastPacket.{HasNoPacket, IsLeastPacket, is_packet_in, version_of}
use Rattle.sel_box.specs.Packet.{PacketFields, is_packet, protocol_fits}
use Rattle.sel_text.specs.Family.{last_address}
use Rattle.sel_box.specs.Point.{IsReal, PointFields, packet_at, real_point, view_of}
use Rattle.sel_box.specs.inner.Shown.{HasNoneShown, IsLeastShown, inbound_ranges, is_shown, outbound_ranges, shows_in}
use Rattle.sel_box.specs.SomePoint.{has_addresses, has_packet, has_real_point}
use Rattle.sel_box.proofs.FieldsShown.{shows-from, shows-parts}
use Rattle.sel_box.proofs.LeastShown.{at_most_then-from, is_shown-from, is_shown-parts, or_left, or_right, some_shows-from, some_shows-some}

-- a point of a box, value by value
record BoxParts (b : AnyBox) (x : PointFields) : Type 0 where
  family : family_of b ≡ x.family
  local : range_has (range_at AxisName.Local b) x.local ≡ true
  remote : range_has (range_at AxisName.Remote b) x.remote ≡ true
  protocol : range_has (range_at AxisName.Protocol b) x.protocol ≡ true
  local_field : range_has (range_at AxisName.LocalField b) x.local_field ≡ true
  remote_field : range_has (range_at AxisName.RemoteField b) x.remote_field ≡ true

box_has-parts : (b : AnyBox) (x : PointFields) → box_has b x ≡ true → BoxParts b x
box_has-parts b x has =
    let all = and_parts (same_family (family_of b) x.family) (ranges_have (ranges_of b) (values_of x)) has in
    let locals = and_parts (range_has (range_at AxisName.Local b) x.local) _ all.1 in
    let remotes = and_parts (range_has (range_at AxisName.Remote b) x.remote) _ locals.1 in
    let protocols = and_parts (range_has (range_at AxisName.Protocol b) x.protocol) _ remotes.1 in
    let fields = and_parts (range_has (range_at AxisName.LocalField b) x.local_field) _ protocols.1 in
    record {
      family = equal_from_same (family_of b) x.family all.0;
      local = locals.0;
      remote = remotes.0;
      protocol = protocols.0;
      local_field = fields.0;
      remote_field = fields.1;
    }

box_has-from : (b : AnyBox) (x : PointFields) → BoxParts b x → box_has b x ≡ true
box_has-from b x parts =
    and_from _ _ (subst (λ f. same_family (family_of b) f ≡ true) parts.family (same_family-refl (family_of b)))
    (and_from _ _ parts.local (and_from _ _ parts.remote (and_from _ _ parts.protocol (and_from _ _ parts.local_field parts.remote_field))))

-- the values of a packet, one by one
pub record PacketParts (p : PacketFields) : Type 0 where
  pub source : p.source ≤ last_address p.family
  pub destination : p.destination ≤ last_address p.family
  pub protocol : protocol_fits p.family p.protocol ≡ true
  pub fields : fields_fit p.protocol p.source_field p.destination_field ≡ true

le_from_test : (m n : ℕ) → nat_le m n ≡ true → m ≤ n
le_from_test m n e = grind (arith, nat_tests)

pub test_from_le : (m n : ℕ) → m ≤ n → nat_le m n ≡ true
test_from_le m n e = grind (arith, nat_tests)

pub is_packet-parts : (p : PacketFields) → is_packet p ≡ true → PacketParts p
is_packet-parts p e =
    let last = last_address p.family in
    let fit = fields_fit p.protocol p.source_field p.destination_field in
    let all = and_parts (nat_le p.source last && nat_le p.destination last && protocol_fits p.family p.protocol) fit e in
    let protocols = and_parts (nat_le p.source last && nat_le p.destination last) (protocol_fits p.family p.protocol) all.0 in
    let addresses = and_parts (nat_le p.source last) (nat_le p.destination last) protocols.0 in
    record {
      source = le_from_test p.source (last_address p.family) addresses.0;
      destination = le_from_test p.destination (last_address p.family) addresses.1;
      protocol = protocols.1;
      fields = all.1;
    }

is_packet-from : (p : PacketFields) → PacketParts p → is_packet p ≡ true
is_packet-from p parts =
    let last = last_address p.family in
    let addresses = and_from _ _ (test_from_le p.source last parts.source) (test_from_le p.destination last parts.destination) in
    and_from _ _ (and_from _ _ addresses parts.protocol) parts.fields

-- the ranges of a box for packets of a direction
abbrev pub ranges_in : Direction → AnyBox → PacketRanges
ranges_in Outbound b = outbound_ranges b
ranges_in Inbound b = inbound_ranges b

-- what a packet shows, and the packet that shows it from the least addresses of a box
abbrev pub shown_of : PacketFields → Shown
shown_of p = record { protocol = p.protocol; source_field = p.source_field; destination_field = p.destination_field }

abbrev pub packet_of : PacketRanges → Shown → PacketFields
packet_of r s = record {
  family = r.family;
  source = r.source;
  destination = r.destination;
  protocol = s.protocol;
  source_field = s.source_field;
  destination_field = s.destination_field;
}

range_low-le : (r : Range) (n : ℕ) → range_has r n ≡ true → r.low ≤ n
range_low-le r n has = grind (arith, nat_tests)

range_has_low : (r : Range) → range_has r r.low ≡ true
range_has_low r = grind (arith, nat_tests)

-- a packet that is seen in a box is shown in its ranges
pub shown_from_view : (d : Direction) (b : AnyBox) (p : PacketFields) → is_packet p ≡ true → box_has b (view_of d p) ≡ true →
    is_shown (ranges_in d b) (shown_of p) ≡ true
shown_from_view Outbound b p packet has =
    let parts = box_has-parts b (view_of Outbound p) has in
    let values = is_packet-parts p packet in
    is_shown-from (outbound_ranges b) (shown_of p) (record {
      protocol = parts.protocol;
      family = subst (λ f. protocol_fits f p.protocol ≡ true) (sym parts.family) values.protocol;
      fields =
          shows-from p.protocol (range_at AxisName.LocalField b) (range_at AxisName.RemoteField b) p.source_field p.destination_field
          parts.local_field parts.remote_field values.fields;
    })
shown_from_view Inbound b p packet has =
    let parts = box_has-parts b (view_of Inbound p) has in
    let values = is_packet-parts p packet in
    is_shown-from (inbound_ranges b) (shown_of p) (record {
      protocol = parts.protocol;
      family = subst (λ f. protocol_fits f p.protocol ≡ true) (sym parts.family) values.protocol;
      fields =
          shows-from p.protocol (range_at AxisName.RemoteField b) (range_at AxisName.LocalField b) p.source_field p.destination_field
          parts.remote_field parts.local_field values.fields;
    })

-- the least addresses of a box, where addresses have this last one
abbrev lows_fit : AnyBox → ℕ → Bool
lows_fit b last = nat_le (range_at AxisName.Local b).low last && nat_le (range_at AxisName.Remote b).low last

low_below : (r : Range) (n last : ℕ) → range_has r n ≡ true → n ≤ last → nat_le r.low last ≡ true
low_below r n last has le = grind (arith, nat_tests)

-- the least addresses of a box that has a packet's view are addresses
addresses_from_view : (d : Direction) (b : AnyBox) (p : PacketFields) → is_packet p ≡ true → box_has b (view_of d p) ≡ true → has_addresses b ≡ true
addresses_from_view d b p packet has =
    let values = is_packet-parts p packet in
    go d (box_has-parts b (view_of d p) has) values.source values.destination
  where
    fit : (local remote : ℕ) → family_of b ≡ p.family → range_has (range_at AxisName.Local b) local ≡ true →
        range_has (range_at AxisName.Remote b) remote ≡ true → local ≤ last_address p.family → remote ≤ last_address p.family → has_addresses b ≡ true
    fit local remote family has_local has_remote local_le remote_le =
        subst (λ f. lows_fit b (last_address f) ≡ true) (sym family)
        (and_from _ _ (low_below (range_at AxisName.Local b) local (last_address p.family) has_local local_le)
        (low_below (range_at AxisName.Remote b) remote (last_address p.family) has_remote remote_le))

    go : (d : Direction) → BoxParts b (view_of d p) → p.source ≤ last_address p.family → p.destination ≤ last_address p.family → has_addresses b ≡ true
    go Outbound parts source destination = fit p.source p.destination parts.family parts.local parts.remote source destination
    go Inbound parts source destination = fit p.destination p.source parts.family parts.local parts.remote destination source

address_parts : (b : AnyBox) → has_addresses b ≡ true →
    ((range_at AxisName.Local b).low ≤ last_address (family_of b)) × ((range_at AxisName.Remote b).low ≤ last_address (family_of b))
address_parts b addresses =
    let last = last_address (family_of b) in
    let both = and_parts (nat_le (range_at AxisName.Local b).low last) (nat_le (range_at AxisName.Remote b).low last) addresses in
    (le_from_test _ _ both.0, le_from_test _ _ both.1)

-- what is shown in the ranges of a box is shown by a packet from its least addresses, which is seen in it
pub packet_from_shown : (d : Direction) (b : AnyBox) (s : Shown) → has_addresses b ≡ true → is_shown (ranges_in d b) s ≡ true →
    (is_packet (packet_of (ranges_in d b) s) ≡ true) × (box_has b (view_of d (packet_of (ranges_in d b) s)) ≡ true)
packet_from_shown Outbound b s addresses shown =
    let parts = is_shown-parts (outbound_ranges b) s shown in
    let fields = shows-parts s.protocol (range_at AxisName.LocalField b) (range_at AxisName.RemoteField b) s.source_field s.destination_field parts.fields in
    let both = address_parts b addresses in (
      is_packet-from (packet_of (outbound_ranges b) s) (record { source = both.0; destination = both.1; protocol = parts.family; fields = fields.2 }),
      box_has-from b (view_of Outbound (packet_of (outbound_ranges b) s)) (record {
        family = refl;
        local = range_has_low (range_at AxisName.Local b);
        remote = range_has_low (range_at AxisName.Remote b);
        protocol = parts.protocol;
        local_field = fields.0;
        remote_field = fields.1;
      }),
    )
packet_from_shown Inbound b s addresses shown =
    let parts = is_shown-parts (inbound_ranges b) s shown in
    let fields = shows-parts s.protocol (range_at AxisName.RemoteField b) (range_at AxisName.LocalField b) s.source_field s.destination_field parts.fields in
    let both = address_parts b addresses in (
      is_packet-from (packet_of (inbound_ranges b) s) (record { source = both.1; destination = both.0; protocol = parts.family; fields = fields.2 }),
      box_has-from b (view_of Inbound (packet_of (inbound_ranges b) s)) (record {
        family = refl;
        local = range_has_low (range_at AxisName.Local b);
        remote = range_has_low (range_at AxisName.Remote b);
        protocol = parts.protocol;
        local_field = fields.1;
        remote_field = fields.0;
      }),
    )

-- the least that is shown is shown by the least packet
pub IsLeastPacket-from_shown : (b : AnyBox) (s : Shown) → has_addresses b ≡ true → IsLeastShown (outbound_ranges b) s →
    IsLeastPacket b (packet_of (outbound_ranges b) s)
IsLeastPacket-from_shown b s addresses shown = record {
  found =
      let found = packet_from_shown Outbound b s addresses shown.found in
      and_from _ _ found.0 found.1;
  least = λ q seen.
      let both = and_parts (is_packet q) (box_has b (view_of Outbound q)) seen in
      let parts = box_has-parts b (view_of Outbound q) both.1 in
      let p : PacketFields = packet_of (outbound_ranges b) s in
      at_most_then-from (version_of p.family) (version_of q.family) _ (omega (arith, ap version_of parts.family))
      (λ e. at_most_then-from p.source q.source _ (range_low-le (range_at AxisName.Local b) q.source parts.local)
      (λ e. at_most_then-from p.destination q.destination _ (range_low-le (range_at AxisName.Remote b) q.destination parts.remote)
      (λ e. shown.least (shown_of q) (shown_from_view Outbound b q both.0 both.1))));
}

pub HasNoPacket-from_shown : (b : AnyBox) → HasNoneShown (outbound_ranges b) → HasNoPacket b
HasNoPacket-from_shown b none p = go (is_packet_in b p) refl
  where
    go : (seen : Bool) → is_packet_in b p ≡ seen → seen ≡ false
    go true e =
        let both = and_parts (is_packet p) (box_has b (view_of Outbound p)) e in
        absurd (both_ways _ (none (shown_of p)) (shown_from_view Outbound b p both.0 both.1))
    go false e = refl

-- a box has a packet exactly where some packet's outbound view lies in it
pub has_packet-some : (b : AnyBox) → IsTrue (has_packet b) ↔ ((p : PacketFields) × (IsTrue (is_packet_in b p)))
unfolding has_packet
has_packet-some b = (
  λ e.
      let both = and_parts (has_addresses b) (shows_in (outbound_ranges b)) e in
      let some = some_shows-some (outbound_ranges b) both.1 in
      let found = packet_from_shown Outbound b some.0 both.0 some.1 in
      (packet_of (outbound_ranges b) some.0, and_from _ _ found.0 found.1),
  λ (p, seen).
      let both = and_parts (is_packet p) (box_has b (view_of Outbound p)) seen in
      and_from _ _ (addresses_from_view Outbound b p both.0 both.1)
      (some_shows-from (outbound_ranges b) (shown_of p) (shown_from_view Outbound b p both.0 both.1)),
)

-- a box has a real point exactly where some real point is in it
pub has_real_point-some : (b : AnyBox) → IsTrue (has_real_point b) ↔ ((x : PointFields) × (IsTrue (box_has b x)) × IsReal x)
unfolding has_real_point
has_real_point-some b = (
  λ e.
      let both = and_parts (has_addresses b) (shows_in (outbound_ranges b) || shows_in (inbound_ranges b)) e in
      elim (or_cases (shows_in (outbound_ranges b)) (shows_in (inbound_ranges b)) both.1) [
        | inl h ↦ seen Outbound both.0 (some_shows-some (outbound_ranges b) h)
        | inr h ↦ seen Inbound both.0 (some_shows-some (inbound_ranges b) h)
      ],
  λ (x, has, (d, (p, (packet, same)))).
      let has_view = subst (λ (y : PointFields). box_has b y ≡ true) (sym same) has in
      let shown = shown_from_view d b p packet has_view in
      and_from _ _ (addresses_from_view d b p packet has_view) (either d (some_shows-from (ranges_in d b) (shown_of p) shown)),
)
  where
    seen : (d : Direction) → has_addresses b ≡ true → (s : Shown) × (is_shown (ranges_in d b) s ≡ true) → (x : PointFields) × (IsTrue (box_has b x)) × IsReal x
    seen d addresses (s, shown) =
        let found = packet_from_shown d b s addresses shown in
        (view_of d (packet_of (ranges_in d b) s), found.1, (d, (packet_of (ranges_in d b) s, (found.0, refl))))

    either : (d : Direction) → shows_in (ranges_in d b) ≡ true →
        (shows_in (outbound_ranges b) || shows_in (inbound_ranges b)) ≡ true
    either Outbound e = or_left _ _ e
    either Inbound e = or_right _ _ e

pub has_real_point-real : (result : Bool) (b : AnyBox) → result ≡ has_real_point b →
    IsTrue result ↔ ((x : PointFields) × (IsTrue (box_has b x)) × IsReal x)
has_real_point-real result b test =
    (λ e. (has_real_point-some b).0 (sym test ∙ e), λ some. test ∙ (has_real_point-some b).1 some)

-- a point is real exactly where the packet with its values in some direction is one
pub real_point-real : (result : Bool) (x : PointFields) → result ≡ real_point x → IsTrue result ↔ IsReal x
real_point-real result x test = (
  λ e. elim (or_cases (is_packet (packet_at Outbound x)) (is_packet (packet_at Inbound x)) (sym test ∙ e)) [
    | inl h ↦ (Outbound, (packet_at Outbound x, (h, refl)))
    | inr h ↦ (Inbound, (packet_at Inbound x, (h, refl)))
  ],
  λ (d, (p, (packet, same))). test ∙ subst (λ (y : PointFields). real_point y ≡ true) same (viewed d p packet),
)
  where
    viewed : (d : Direction) (p : PacketFields) → is_packet p ≡ true → real_point (view_of d p) ≡ true
    viewed Outbound p packet = or_left (is_packet p) (is_packet (packet_at Inbound (view_of Outbound p))) packet
    viewed Inbound p packet = or_right (is_packet (packet_at Outbound (view_of Inbound p))) (is_packet p) packet

-- outbound packets are looked for first, then inbound ones
pub has_real_point-outbound : (b : AnyBox) (r : PacketRanges) (result : Bool) → has_addresses b ≡ true → r ≡ outbound_ranges b →
    result ≡ shows_in r → result ≡ true → result ≡ has_real_point b
unfolding has_real_point
has_real_point-outbound b r result addresses same test seen =
    seen ∙ sym (and_from _ _ addresses (or_left _ _ (sym (test ∙ ap shows_in same) ∙ seen)))

pub has_real_point-inbound : (b : AnyBox) (r : PacketRanges) (outbound result : Bool) → has_addresses b ≡ true → r ≡ outbound_ranges b →
    outbound ≡ shows_in r → outbound ≡ false → result ≡ shows_in (inbound_ranges b) → result ≡ has_real_point b
unfolding has_real_point
has_real_point-inbound b r outbound result addresses same test unseen later =
    later ∙ sym (ap (λ x. x && (shows_in (outbound_ranges b) || shows_in (inbound_ranges b))) addresses
    ∙ ap (λ x. x || shows_in (inbound_ranges b)) (sym (test ∙ ap shows_in same) ∙ unseen))

-- the packet that is made of the least that is shown
pub found_packet : (b : AnyBox) (r : PacketRanges) (s : Shown) (packet : Option PacketFields) → has_addresses b ≡ true → r ≡ outbound_ranges b →
    IsLeastShown r s → packet ≡ (if is_packet (packet_of r s) then Some (packet_of r s) else None) →
    packet ≡ Some (packet_of (outbound_ranges b) s)
found_packet b r s packet addresses same shown e =
    let shown_there = subst (λ (q : PacketRanges). IsLeastShown q s) same shown in
    let made = packet_from_shown Outbound b s addresses shown_there.found in
    e ∙ ap (λ (q : PacketRanges). if is_packet (packet_of q s) then Some (packet_of q s) else None) same
    ∙ ap (λ test. if test then Some (packet_of (outbound_ranges b) s) else None) made.0

pub has_packet-from : (b : AnyBox) (p : PacketFields) → IsLeastPacket b p → has_packet b ≡ true
has_packet-from b p least = (has_packet-some b).1 (p, least.found)

pub has_packet-none : (b : AnyBox) → HasNoPacket b → has_packet b ≡ false
has_packet-none b none = go (has_packet b) refl
  where
    go : (some : Bool) → has_packet b ≡ some → some ≡ false
    go true e = let found = (has_packet-some b).0 e in absurd (both_ways _ (none found.0) found.1)
    go false e = refl
