-- The least packet of a box, as a function of the box.
use Rattle.std.specs.Prelude.{Option, None, option_map, if◌then◌else◌}
use Rattle.sel_box.specs.declared.any_box.AnyBox.{AnyBox}
use Rattle.sel_box.specs.declared.shown.PacketRanges.{PacketRanges}
use Rattle.sel_box.specs.declared.shown.Shown.{Shown}
use Rattle.sel_box.specs.Classes.{class_rows}
use Rattle.sel_box.specs.Packet.{PacketFields}
use Rattle.sel_box.specs.SomePoint.{has_addresses}
use Rattle.sel_box.specs.inner.Shown.{outbound_ranges, rows_show}

-- The packet from the least addresses of the ranges that shows this.
abbrev pub packet_showing : PacketRanges → Shown → PacketFields
packet_showing r s = record {
  family = r.family;
  source = r.source;
  destination = r.destination;
  protocol = s.protocol;
  source_field = s.source_field;
  destination_field = s.destination_field;
}

-- The least addresses of the box, and the least that the packets of a class show in its ranges: none where none show anything.
unfoldable pub least_packet_of : AnyBox → Option PacketFields
least_packet_of b =
    if has_addresses b
    then option_map (packet_showing (outbound_ranges b)) (rows_show (outbound_ranges b) class_rows)
    else None
