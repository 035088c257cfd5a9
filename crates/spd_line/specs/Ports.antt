-- Which port items and flags a line may have with its protocol (RFC 4301 sections 4.4.1.1 and 4.4.1.2).
use Rattle.std.specs.Prelude.{ℕ, Bool, true, false, ◌&&◌, ◌||◌, not, nat_le}
use Rattle.std.specs.List.{list_all, list_any}
use Rattle.sel_box.specs.Class.{form_of, shows_type_code}
use Rattle.sel_box.specs.declared.form.FieldForm.{FieldForm}
use Rattle.sel_text.specs.declared.port.PortItem.{PortItem}
use Rattle.spd_line.specs.declared.line.LineParts.{LineParts}
use Rattle.spd_line.specs.declared.line.ProtocolItem.{ProtocolItem}

-- Fields of the form are numbers up to this one: two ports, or a Mobility Header type (RFC 6275 section 6.1.1).
abbrev pub shows_number : FieldForm → ℕ → Bool
shows_number FieldForm.Ports last = true
shows_number FieldForm.MobilityType last = nat_le last 255
shows_number _ last = false

-- Fields of the form are two ports.
abbrev pub shows_ports : FieldForm → Bool
shows_ports FieldForm.Ports = true
shows_ports _ = false

-- The port item has the form of the protocol's fields; `any` and `opaque` go with each protocol.
abbrev pub port_has_form : ProtocolItem → PortItem → Bool
port_has_form _ PortItem.Any = true
port_has_form _ PortItem.Opaque = true
port_has_form (ProtocolItem.Number protocol) (PortItem.Number first last) = shows_number (form_of protocol) last
port_has_form (ProtocolItem.Number protocol) (PortItem.TypeCode first last) = shows_type_code (form_of protocol)
port_has_form _ _ = false

abbrev pub ports_fit : LineParts → Bool
ports_fit parts =
    list_all (port_has_form parts.protocol) parts.local_port && list_all (port_has_form parts.protocol) parts.remote_port

-- The protocol is one number, whose packets show two ports.
abbrev pub is_two_port : ProtocolItem → Bool
is_two_port (ProtocolItem.Number protocol) = shows_ports (form_of protocol)
is_two_port _ = false

-- A port is flagged, though the packets don't all show two.
abbrev pub flags_no_field : LineParts → Bool
flags_no_field parts = (parts.pfp.local_port || parts.pfp.remote_port) && not (is_two_port parts.protocol)

-- The item is OPAQUE alone.
abbrev pub is_opaque_protocol : ProtocolItem → Bool
is_opaque_protocol ProtocolItem.Opaque = true
is_opaque_protocol _ = false

abbrev pub is_opaque_port : PortItem → Bool
is_opaque_port PortItem.Opaque = true
is_opaque_port _ = false

-- A flagged selector is or has OPAQUE, so that no packet has a value to populate it from.
abbrev pub flags_opaque : LineParts → Bool
flags_opaque parts =
    (parts.pfp.protocol && is_opaque_protocol parts.protocol)
    || (parts.pfp.local_port && list_any is_opaque_port parts.local_port)
    || (parts.pfp.remote_port && list_any is_opaque_port parts.remote_port)
