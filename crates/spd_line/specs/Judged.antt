-- How a line judges a point that it selects (RFC 4301 sections 4.4.1.2 and 5).
use Rattle.std.specs.Prelude.{Bool, ◌==◌, ◌&&◌, ◌||◌, if◌then◌else◌}
use Rattle.sel_box.specs.declared.packet.Direction.{Direction}
use Rattle.sel_box.specs.declared.packet.Direction.TheVariants.{Outbound, Inbound}
use Rattle.sel_box.specs.Class.{opaque_protocol, opaque_field}
use Rattle.sel_box.specs.Point.{PointFields}
use Rattle.spd_line.specs.declared.action.Action.{Action}
use Rattle.spd_line.specs.declared.action.Mode.{Mode}
use Rattle.spd_line.specs.declared.judgement.Carriage.{Carriage}
use Rattle.spd_line.specs.declared.judgement.Judgement.{Judgement}
use Rattle.spd_line.specs.declared.line.LineParts.{LineParts}
use Rattle.spd_line.specs.declared.line.Pfp.{Pfp}

-- A flagged selector's value isn't available in the point. An address always is.
abbrev pub lacks_flagged : Pfp → PointFields → Bool
lacks_flagged flags x =
    (flags.protocol && (x.protocol == opaque_protocol))
    || (flags.local_port && (x.local_field == opaque_field))
    || (flags.remote_port && (x.remote_field == opaque_field))

-- A tunnel's gates in the order of travel.
abbrev pub carriage_of : Direction → Mode → Carriage
carriage_of _ Mode.Transport = Carriage.Transport
carriage_of Outbound (Mode.Tunnel local remote) = Carriage.Tunnel local remote
carriage_of Inbound (Mode.Tunnel local remote) = Carriage.Tunnel remote local

-- What the action does to a packet of the direction.
abbrev pub judgement_of : Direction → Action → Judgement
judgement_of _ Action.Discard = Judgement.Discard
judgement_of _ Action.Bypass = Judgement.Bypass
judgement_of d (Action.Protect ipsec mode) = Judgement.Protect ipsec (carriage_of d mode)

-- The line's judgement of the point: its action, but DISCARD where a flagged selector's value isn't available.
abbrev pub judged : Direction → PointFields → LineParts → Judgement
judged d x line = if lacks_flagged line.pfp x then Judgement.Discard else judgement_of d line.action
