use Rattle.pair_gap.proofs.LeastPackets.{is_least_packet_of}
use Rattle.pair_gap.proofs.pairs.first_packet.Goals as goal

pub returns : goal.returns
returns c =
    is_least_packet_of c.args.region.now (c.packet_order.ensures.one_least c.args.region.now) c.least_packet.result
    c.least_packet.ensures.found c.least_packet.ensures.none
