-- The values of a packet lie on their axes.
use Rattle.std.proofs.Common.{◌≡◌, ◌≤◌, true, arith}
use Rattle.std.proofs.lemmas.Bool.Decides.{nat_tests}
use Rattle.sel_text.specs.declared.family.Family.{Family}
use Rattle.sel_text.specs.declared.family.Family.TheVariants.{Four, Six}
use Rattle.sel_text.specs.Family.{last_address}
use Rattle.sel_box.specs.Class.{opaque_protocol}
use Rattle.sel_box.specs.Packet.{PacketFields, is_packet, protocol_fits}
use Rattle.sel_box.proofs.BoxPackets.{is_packet-parts}

pub source-within : (p : PacketFields) → is_packet p ≡ true → p.source ≤ last_address p.family
source-within p e = (is_packet-parts p e).source

pub destination-within : (p : PacketFields) → is_packet p ≡ true → p.destination ≤ last_address p.family
destination-within p e = (is_packet-parts p e).destination

pub protocol-within : (p : PacketFields) → is_packet p ≡ true → p.protocol ≤ opaque_protocol
protocol-within p e = go p.family (is_packet-parts p e).protocol
  where
    go : (family : Family) → protocol_fits family p.protocol ≡ true → p.protocol ≤ opaque_protocol
    go Four fits = grind (arith, nat_tests)
    go Six fits = grind (arith, nat_tests)

pub ruleset within = (source-within, destination-within, protocol-within)
