-- The least packet is made of the least that is shown; where nothing is, there is none.
use Rattle.std.proofs.Common.{◌≡◌, Option, Some, is_some, IfSome, IfNone, sym, ap, ◌∙◌, subst}
use Rattle.sel_box.specs.LeastPacket.{HasNoPacket, IsLeastPacket}
use Rattle.sel_box.specs.Packet.{PacketFields}
use Rattle.sel_box.specs.inner.Shown.{HasNoneShown, IsLeastShown, outbound_ranges}
use Rattle.sel_box.specs.declared.shown.PacketRanges.{PacketRanges}
use Rattle.sel_box.proofs.BoxPackets.{HasNoPacket-from_shown, IsLeastPacket-from_shown, found_packet, has_packet-from, has_packet-none, packet_of}
use Rattle.sel_box.proofs.least.least_packet.Goals as goal

-- no packet, where nothing is shown
no_packet : (c : goal.After-from_residual) → HasNoPacket c.args.region.now
no_packet c =
    HasNoPacket-from_shown c.args.region.now
    (subst (λ (r : PacketRanges). HasNoneShown r) c.outbound-ranges.ensures.value c.in_err-shown.ensures.none)

pub returns-in_err-shown-clause-none : goal.returns-in_err-shown-clause-none
returns-in_err-shown-clause-none c =
    subst (λ (o : Option PacketFields). IfNone o (HasNoPacket c.args.region.now)) (sym c.from_residual.ensures) (no_packet c)

pub returns-in_err-shown-clause-test : goal.returns-in_err-shown-clause-test
returns-in_err-shown-clause-test c =
    ap is_some c.from_residual.ensures ∙ sym (has_packet-none c.args.region.now (no_packet c))

-- the packet, and that it is the least
packet_found : (c : goal.After-new) → c.new.result ≡ Some (packet_of (outbound_ranges c.args.region.now) c.in_ok-shown.shown)
packet_found c =
    found_packet c.args.region.now c.outbound-ranges.result c.in_ok-shown.shown c.new.result
    c.outbound-ranges.ensures.addresses c.outbound-ranges.ensures.value c.in_ok-shown.ensures.found c.new.ensures

packet_least : (c : goal.After-new) → IsLeastPacket c.args.region.now (packet_of (outbound_ranges c.args.region.now) c.in_ok-shown.shown)
packet_least c =
    IsLeastPacket-from_shown c.args.region.now c.in_ok-shown.shown c.outbound-ranges.ensures.addresses
    (subst (λ (r : PacketRanges). IsLeastShown r c.in_ok-shown.shown) c.outbound-ranges.ensures.value c.in_ok-shown.ensures.found)

pub returns-clause-found : goal.returns-clause-found
returns-clause-found c =
    subst (λ (o : Option PacketFields). IfSome o (IsLeastPacket c.args.region.now)) (sym (packet_found c)) (packet_least c)

pub returns-clause-none : goal.returns-clause-none
returns-clause-none c =
    subst (λ (o : Option PacketFields). IfNone o (HasNoPacket c.args.region.now)) (sym (packet_found c)) tt

pub returns-clause-test : goal.returns-clause-test
returns-clause-test c =
    ap is_some (packet_found c) ∙ sym (has_packet-from c.args.region.now (packet_of (outbound_ranges c.args.region.now) c.in_ok-shown.shown) (packet_least c))
