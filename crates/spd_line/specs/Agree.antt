-- Whether two policies judge each packet that goes from one gateway to the other alike.
use Rattle.std.specs.Prelude.{◌≡◌, Bool, true, false, ◌==◌, ◌&&◌, List, IsTrue}
use Rattle.sel_text.specs.declared.address.Address.{Address}
use Rattle.sel_text.specs.Family.{address_family, address_value, same_family}
use Rattle.sel_box.specs.declared.packet.Direction.TheVariants.{Outbound, Inbound}
use Rattle.sel_box.specs.Packet.{PacketFields, is_packet}
use Rattle.sel_box.specs.Point.{view_of}
use Rattle.spd_line.specs.declared.action.Ipsec.{Ipsec}
use Rattle.spd_line.specs.declared.judgement.Carriage.{Carriage}
use Rattle.spd_line.specs.declared.judgement.Judgement.{Judgement}
use Rattle.spd_line.specs.declared.line.LineParts.{LineParts}
use Rattle.spd_line.specs.First.{verdict_of}

-- Two addresses, two protocols, two ways of carriage, two judgements are the same.
abbrev pub same_address : Address → Address → Bool
same_address a b = same_family (address_family a) (address_family b) && (address_value a == address_value b)

abbrev pub same_ipsec : Ipsec → Ipsec → Bool
same_ipsec Ipsec.Esp Ipsec.Esp = true
same_ipsec Ipsec.Ah Ipsec.Ah = true
same_ipsec _ _ = false

abbrev pub same_carriage : Carriage → Carriage → Bool
same_carriage Carriage.Transport Carriage.Transport = true
same_carriage (Carriage.Tunnel first second) (Carriage.Tunnel first' second') =
    same_address first first' && same_address second second'
same_carriage _ _ = false

abbrev pub same_judgement : Judgement → Judgement → Bool
same_judgement Judgement.Discard Judgement.Discard = true
same_judgement Judgement.Bypass Judgement.Bypass = true
same_judgement (Judgement.Protect ipsec carriage) (Judgement.Protect ipsec' carriage') =
    same_ipsec ipsec ipsec' && same_carriage carriage carriage'
same_judgement _ _ = false

-- The two policies agree: B judges each packet that comes in as A judges it when it goes out (RFC 4301 section 5).
abbrev pub Agree : List LineParts → List LineParts → Type 0
Agree a b =
    (p : PacketFields) → IsTrue (is_packet p) →
    (verdict_of Outbound (view_of Outbound p) a).judgement ≡ (verdict_of Inbound (view_of Inbound p) b).judgement
