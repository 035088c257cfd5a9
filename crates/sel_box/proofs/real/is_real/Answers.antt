-- A point is real where it is a view in one direction or the other.
use Rattle.sel_box.specs.declared.packet.Direction.TheVariants.{Outbound, Inbound}
use Rattle.sel_box.specs.Packet.{is_packet}
use Rattle.sel_box.specs.Point.{packet_at}
use Rattle.sel_box.proofs.BoxPackets.{real_point-real}
use Rattle.sel_box.proofs.LeastShown.{or_first, or_second}
use Rattle.sel_box.proofs.real.is_real.Goals as goal

pub returns-then-is_view-clause-real : goal.returns-then-is_view-clause-real
returns-then-is_view-clause-real c =
    real_point-real c.is_view.result c.args.point.now
    (or_first (is_packet (packet_at Outbound c.args.point.now)) (is_packet (packet_at Inbound c.args.point.now))
    c.is_view.result c.is_view.ensures c.if-is_view.true)

pub returns-else-is_view-clause-real : goal.returns-else-is_view-clause-real
returns-else-is_view-clause-real c =
    real_point-real c.is_view-else-is_view.result c.args.point.now
    (or_second (is_packet (packet_at Outbound c.args.point.now)) (is_packet (packet_at Inbound c.args.point.now))
    c.is_view.result c.is_view-else-is_view.result c.is_view.ensures c.if-is_view.false c.is_view-else-is_view.ensures)
