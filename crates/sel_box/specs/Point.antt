-- What a policy sees of a packet in one direction (RFC 4301 section 4.4.1).
use Rattle.std.specs.Prelude.{◌≡◌, ℕ, Bool, ◌&&◌, ◌||◌, nat_le, IsTrue}
use Rattle.sel_box.specs.declared.packet.Direction.{Direction}
use Rattle.sel_box.specs.declared.packet.Direction.TheVariants.{Outbound, Inbound}
use Rattle.sel_text.specs.declared.family.Family.{Family}
use Rattle.sel_box.specs.Class.{opaque_protocol, opaque_field}
use Rattle.sel_box.specs.Packet.{PacketFields, is_packet}
use Rattle.sel_text.specs.Family.{last_address}

-- The values of a point: its family, the local and the remote side, and its protocol.
pub record PointFields : Type 0 where
  pub family : Family
  pub local : ℕ
  pub remote : ℕ
  pub protocol : ℕ
  pub local_field : ℕ
  pub remote_field : ℕ

-- Each value lies on its axis, OPAQUE being the last of a protocol's and of a field's.
abbrev pub is_point : PointFields → Bool
is_point x =
    nat_le x.local (last_address x.family) && nat_le x.remote (last_address x.family)
    && nat_le x.protocol opaque_protocol && nat_le x.local_field opaque_field && nat_le x.remote_field opaque_field

-- The point at which a policy judges a packet: outbound the source side is local, inbound the destination side.
abbrev pub view_of : Direction → PacketFields → PointFields
view_of Outbound p = record {
  family = p.family;
  local = p.source;
  remote = p.destination;
  protocol = p.protocol;
  local_field = p.source_field;
  remote_field = p.destination_field;
}
view_of Inbound p = record {
  family = p.family;
  local = p.destination;
  remote = p.source;
  protocol = p.protocol;
  local_field = p.destination_field;
  remote_field = p.source_field;
}

-- The point is the view of some packet in some direction.
abbrev pub IsReal : PointFields → Type 0
IsReal x = (d : Direction) × ((p : PacketFields) × (IsTrue (is_packet p) × (view_of d p ≡ x)))

-- The packet whose view in the direction has these values.
abbrev pub packet_at : Direction → PointFields → PacketFields
packet_at Outbound x = record {
  family = x.family;
  source = x.local;
  destination = x.remote;
  protocol = x.protocol;
  source_field = x.local_field;
  destination_field = x.remote_field;
}
packet_at Inbound x = record {
  family = x.family;
  source = x.remote;
  destination = x.local;
  protocol = x.protocol;
  source_field = x.remote_field;
  destination_field = x.local_field;
}

-- The same as a test: some packet shows these values, outbound or inbound.
abbrev pub real_point : PointFields → Bool
real_point x = is_packet (packet_at Outbound x) || is_packet (packet_at Inbound x)
