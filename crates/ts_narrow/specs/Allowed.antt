-- The real points that one line of a policy protects in both directions (RFC 4301 section 4.4.1; RFC 7296 section 2.9).
use Rattle.std.specs.Prelude.{ℕ, Bool, true, false, ◌==◌, ◌&&◌, List}
use Rattle.sel_box.specs.declared.packet.Direction.{Direction}
use Rattle.sel_box.specs.declared.packet.Direction.TheVariants.{Outbound, Inbound}
use Rattle.sel_box.specs.Point.{PointFields, real_point}
use Rattle.spd_cut.specs.declared.entry.Entry.{Entry}
use Rattle.spd_cut.specs.StandsFor.{StandsFor}
use Rattle.spd_line.specs.declared.judgement.Judgement.{Judgement}
use Rattle.spd_line.specs.declared.line.LineParts.{LineParts}
use Rattle.spd_line.specs.First.{first_place, verdict_of}

-- Packets are protected.
abbrev pub is_protect : Judgement → Bool
is_protect (Judgement.Protect ipsec carriage) = true
is_protect Judgement.Bypass = false
is_protect Judgement.Discard = false

-- The line at the place is the first that selects the point in the direction, and protects it.
abbrev pub protects : List LineParts → ℕ → Direction → PointFields → Bool
protects lines place d x = (first_place d x lines == place) && is_protect (verdict_of d x lines).judgement

-- The point is real, and the line at the place protects it in both directions.
abbrev pub allowed : List LineParts → ℕ → PointFields → Bool
allowed lines place x = real_point x && (protects lines place Outbound x && protects lines place Inbound x)

-- Both lists of entries stand for the policy, the first outbound and the second inbound.
pub record StandForBoth (lines : List LineParts) (outbound inbound : List Entry) : Type 0 where
  pub outbound_stands : StandsFor outbound Outbound lines
  pub inbound_stands : StandsFor inbound Inbound lines
