-- The order of packets, and the least packet of a box.
use Rattle.std.specs.Prelude.{◌≡◌, ℕ, Bool, true, false, ◌==◌, ◌&&◌, ◌||◌, nat_le, nat_lt}
use Rattle.sel_box.specs.declared.any_box.AnyBox.{AnyBox}
use Rattle.sel_box.specs.declared.packet.Direction.TheVariants.{Outbound}
use Rattle.sel_text.specs.declared.family.Family.{Family}
use Rattle.sel_text.specs.declared.family.Family.TheVariants.{Four, Six}
use Rattle.sel_box.specs.Packet.{PacketFields, is_packet}
use Rattle.sel_box.specs.Point.{view_of}
use Rattle.sel_box.specs.Boxes.{box_has}

-- The lesser number comes first; where both are the same, the rest decides.
abbrev pub at_most_then : ℕ → ℕ → Bool → Bool
at_most_then m n rest = nat_lt m n || ((m == n) && rest)

-- IPv4 comes before IPv6.
abbrev pub version_of : Family → ℕ
version_of Four = 4
version_of Six = 6

-- The order of packets: by family, then source, destination, protocol, source field and destination field.
abbrev pub packet_at_most : PacketFields → PacketFields → Bool
packet_at_most p q =
    at_most_then (version_of p.family) (version_of q.family)
    (at_most_then p.source q.source
    (at_most_then p.destination q.destination
    (at_most_then p.protocol q.protocol
    (at_most_then p.source_field q.source_field
    (nat_le p.destination_field q.destination_field)))))

-- An order in which any two come one before the other.
pub record IsTotalOrder {P : Type 0} (at_most : P → P → Bool) : Type 0 where
  pub reflexive : (p : P) → at_most p p ≡ true
  pub transitive : (p q r : P) → at_most p q ≡ true → at_most q r ≡ true → at_most p r ≡ true
  pub antisymmetric : (p q : P) → at_most p q ≡ true → at_most q p ≡ true → p ≡ q
  pub total : (p q : P) → (at_most p q || at_most q p) ≡ true

-- The values are those of a packet whose outbound view lies in the box.
abbrev pub is_packet_in : AnyBox → PacketFields → Bool
is_packet_in b p = is_packet p && box_has b (view_of Outbound p)

-- It is such a packet, and at most each other.
pub record IsLeastPacket (b : AnyBox) (p : PacketFields) : Type 0 where
  pub found : is_packet_in b p ≡ true
  pub least : (q : PacketFields) → is_packet_in b q ≡ true → packet_at_most p q ≡ true

-- There is none.
abbrev pub HasNoPacket : AnyBox → Type 0
HasNoPacket b = (p : PacketFields) → is_packet_in b p ≡ false
