-- Why some parts make no line (RFC 4301 section 4.4.1).
use Rattle.std.specs.Prelude.{ℕ, Bool, false, not, ◌&&◌, nat_lt, codes, List, Option, Some, None, if◌then◌else◌}
use Rattle.sel_box.specs.declared.packet.Direction.TheVariants.{Outbound, Inbound}
use Rattle.spd_line.specs.declared.action.Action.{Action}
use Rattle.spd_line.specs.declared.action.Mode.{Mode}
use Rattle.spd_line.specs.declared.fault.LineFault.{LineFault}
use Rattle.spd_line.specs.declared.line.LineParts.{LineParts}
use Rattle.spd_line.specs.declared.line.Way.{Way}
use Rattle.spd_line.specs.Families.{families_differ, shares_family}
use Rattle.spd_line.specs.Ports.{flags_no_field, flags_opaque, ports_fit}
use Rattle.spd_line.specs.Selects.{has_direction}
use Rattle.spd_line.specs.Width.{box_count}

-- What is printed of a fault.
abbrev pub line_fault_text : LineFault → List ℕ
line_fault_text LineFault.ProtectOneWay = codes "protect one way"
line_fault_text LineFault.GateFamily = codes "gate family"
line_fault_text LineFault.NoFamily = codes "no family"
line_fault_text LineFault.PortNoProtocol = codes "port no protocol"
line_fault_text LineFault.PfpNoField = codes "pfp no field"
line_fault_text LineFault.PfpOpaque = codes "pfp opaque"
line_fault_text LineFault.TooWide = codes "too wide"

-- A PROTECT line is looked at in one direction alone.
abbrev pub protects_one_way : Action → Way → Bool
protects_one_way (Action.Protect ipsec mode) way = not (has_direction way Outbound && has_direction way Inbound)
protects_one_way _ way = false

-- The two gates of a tunnel are of different families.
abbrev pub mixes_gates : Action → Bool
mixes_gates (Action.Protect ipsec (Mode.Tunnel local remote)) = families_differ local remote
mixes_gates _ = false

-- A line has at most 4,096 boxes.
abbrev pub is_too_wide : LineParts → Bool
is_too_wide parts = nat_lt 4096 (box_count parts)

-- The fault of some parts: the first in this order.
unfoldable pub line_fault : LineParts → Option LineFault
line_fault parts =
    if protects_one_way parts.action parts.way then Some LineFault.ProtectOneWay
    else if mixes_gates parts.action then Some LineFault.GateFamily
    else if not (shares_family parts) then Some LineFault.NoFamily
    else if not (ports_fit parts) then Some LineFault.PortNoProtocol
    else if flags_no_field parts then Some LineFault.PfpNoField
    else if flags_opaque parts then Some LineFault.PfpOpaque
    else if is_too_wide parts then Some LineFault.TooWide
    else None
