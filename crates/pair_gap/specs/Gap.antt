-- Where two gateways differ: A judges a packet that goes out otherwise than B does when it comes in (RFC 4301 section 5).
use Rattle.std.specs.Prelude.{◌≡◌, ◌≢◌, List, IsTrue}
use Rattle.sel_box.specs.declared.packet.Direction.TheVariants.{Outbound, Inbound}
use Rattle.sel_box.specs.LeastPacket.{packet_at_most}
use Rattle.sel_box.specs.Packet.{PacketFields, is_packet}
use Rattle.sel_box.specs.Point.{view_of}
use Rattle.spd_line.specs.declared.judgement.Judgement.{Judgement}
use Rattle.spd_line.specs.declared.judgement.Verdict.{Verdict}
use Rattle.spd_line.specs.declared.line.LineParts.{LineParts}
use Rattle.spd_line.specs.First.{verdict_of}
use Rattle.pair_gap.specs.declared.gap.Gap.{Gap}

-- The verdict of A on the packet that goes out, and of B on the packet that comes in.
abbrev pub verdict_out : List LineParts → PacketFields → Verdict
verdict_out a p = verdict_of Outbound (view_of Outbound p) a

abbrev pub verdict_in : List LineParts → PacketFields → Verdict
verdict_in b p = verdict_of Inbound (view_of Inbound p) b

-- A packet that both judge, and not alike.
pub record IsGap (a b : List LineParts) (p : PacketFields) : Type 0 where
  pub packet : IsTrue (is_packet p)
  pub differ : (verdict_out a p).judgement ≢ (verdict_in b p).judgement

-- The least such packet, with the verdicts of both.
pub record IsLeastGap (a b : List LineParts) (gap : Gap) : Type 0 where
  pub differs : IsGap a b gap.packet
  pub least : (p : PacketFields) → IsGap a b p → IsTrue (packet_at_most gap.packet p)
  pub ours : gap.a ≡ verdict_out a gap.packet
  pub theirs : gap.b ≡ verdict_in b gap.packet
