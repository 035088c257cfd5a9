-- What a packet shows to a policy (RFC 4301 section 4.4.1.1).
use Rattle.std.specs.Prelude.{ℕ, Bool, ◌&&◌, nat_le}
use Rattle.sel_text.specs.declared.family.Family.{Family}
use Rattle.sel_text.specs.declared.family.Family.TheVariants.{Four, Six}
use Rattle.sel_text.specs.Family.{last_address}
use Rattle.sel_box.specs.Class.{fields_fit, opaque_protocol}

-- The values of a packet: its family, both sides, and its protocol with 256, its fields with 65536 for OPAQUE.
pub record PacketFields : Type 0 where
  pub family : Family
  pub source : ℕ
  pub destination : ℕ
  pub protocol : ℕ
  pub source_field : ℕ
  pub destination_field : ℕ

-- A packet of the family can be of the protocol: 0 to 255, and OPAQUE in IPv6 alone.
abbrev pub protocol_fits : Family → ℕ → Bool
protocol_fits Four protocol = nat_le protocol 255
protocol_fits Six protocol = nat_le protocol opaque_protocol

-- Some packet shows these values.
abbrev pub is_packet : PacketFields → Bool
is_packet p =
    nat_le p.source (last_address p.family) && nat_le p.destination (last_address p.family)
    && protocol_fits p.family p.protocol && fields_fit p.protocol p.source_field p.destination_field
