-- The least gap of two lists of entries, as a function of them: pair by pair, and the lesser of two each time.
use Rattle.std.specs.Prelude.{List, [], ◌∷◌, Option, Some, None, option_map, option_and_then, if◌then◌else◌}
use Rattle.sel_box.specs.declared.any_box.AnyBox.{AnyBox}
use Rattle.sel_box.specs.BoxRegion.{box_meet}
use Rattle.sel_box.specs.LeastPacket.{packet_at_most}
use Rattle.sel_box.specs.Packet.{PacketFields}
use Rattle.sel_box.specs.Swap.{box_swapped}
use Rattle.spd_cut.specs.declared.entry.Entry.{Entry}
use Rattle.spd_line.specs.Agree.{same_judgement}
use Rattle.pair_gap.specs.declared.gap.Gap.{Gap}
use Rattle.pair_gap.specs.LeastPacketOf.{least_packet_of}

-- The points that an entry of A and an entry of B have in common, as A sees them when they go out: B's sides are exchanged.
abbrev pub common_region : Entry → Entry → Option AnyBox
common_region ours theirs = box_meet ours.region (box_swapped theirs.region)

-- The packet with the verdicts of both entries.
abbrev pub gap_at : Entry → Entry → PacketFields → Gap
gap_at ours theirs p = record {
  packet = p;
  a = record { line = ours.link; judgement = ours.judgement };
  b = record { line = theirs.link; judgement = theirs.judgement };
}

-- The least packet that both entries have, where they are judged differently.
abbrev pub gap_of : Entry → Entry → Option Gap
gap_of ours theirs =
    if same_judgement ours.judgement theirs.judgement
    then None
    else option_map (gap_at ours theirs) (option_and_then least_packet_of (common_region ours theirs))

-- The lesser of two, the first of them where they have one packet.
abbrev pub lesser_of : Gap → Gap → Gap
lesser_of best found = if packet_at_most best.packet found.packet then best else found

abbrev pub lesser : Option Gap → Option Gap → Option Gap
lesser None found = found
lesser (Some best) None = Some best
lesser (Some best) (Some found) = Some (lesser_of best found)

-- The least of a gap and of those of an entry of A with entries of B.
abbrev pub least_with : Option Gap → Entry → List Entry → Option Gap
least_with best ours [] = best
least_with best ours (theirs ∷ rest) = least_with (lesser best (gap_of ours theirs)) ours rest

-- The least of a gap and of those of all pairs of entries.
abbrev pub least_from : Option Gap → List Entry → List Entry → Option Gap
least_from best [] inbound = best
least_from best (ours ∷ rest) inbound = least_from (least_with best ours inbound) rest inbound

-- The least gap of all pairs.
abbrev pub least_gap_of : List Entry → List Entry → Option Gap
least_gap_of outbound inbound = least_from None outbound inbound
