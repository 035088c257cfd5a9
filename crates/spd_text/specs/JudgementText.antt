-- The text of a judgement (RFC 4301 section 5).
use Rattle.std.specs.Prelude.{ℕ, List, ◌++◌, codes}
use Rattle.sel_text.specs.Text.{address_text}
use Rattle.spd_line.specs.declared.action.Ipsec.{Ipsec}
use Rattle.spd_line.specs.declared.judgement.Answer.{Answer}
use Rattle.spd_line.specs.declared.judgement.Carriage.{Carriage}
use Rattle.spd_line.specs.declared.judgement.Judgement.{Judgement}

-- The IPsec protocol.
abbrev pub ipsec_text : Ipsec → List ℕ
ipsec_text Ipsec.Esp = codes "esp"
ipsec_text Ipsec.Ah = codes "ah"

-- The mode, a tunnel with its two gates.
abbrev pub carriage_text : Carriage → List ℕ
carriage_text Carriage.Transport = codes " transport"
carriage_text (Carriage.Tunnel first second) =
    codes " tunnel " ++ (address_text first ++ (codes " " ++ address_text second))

-- The judgement, for a tunnel with its gates in the order of travel.
abbrev pub judgement_text : Judgement → List ℕ
judgement_text Judgement.Discard = codes "discard"
judgement_text Judgement.Bypass = codes "bypass"
judgement_text (Judgement.Protect ipsec carriage) = codes "protect " ++ (ipsec_text ipsec ++ carriage_text carriage)

-- A verdict: the judgement, and the name of the line that gave it.
abbrev pub verdict_text : Answer → List ℕ
verdict_text answer = judgement_text answer.judgement ++ (codes " " ++ answer.name)
