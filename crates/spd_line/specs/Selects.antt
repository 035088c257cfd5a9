-- Which points a line selects (RFC 4301 section 4.4.1.1).
use Rattle.std.specs.Prelude.{ℕ, Bool, true, false, ◌==◌, ◌&&◌, nat_le, nat_lt}
use Rattle.std.specs.List.{list_any}
use Rattle.sel_box.specs.declared.packet.Direction.{Direction}
use Rattle.sel_box.specs.declared.packet.Direction.TheVariants.{Outbound, Inbound}
use Rattle.sel_text.specs.declared.family.Family.{Family}
use Rattle.sel_box.specs.Class.{opaque_protocol, opaque_field}
use Rattle.sel_box.specs.Point.{PointFields}
use Rattle.sel_text.specs.Family.{address_value}
use Rattle.sel_text.specs.declared.item.AddressItem.{AddressItem}
use Rattle.sel_text.specs.declared.port.PortItem.{PortItem}
use Rattle.spd_line.specs.declared.line.LineParts.{LineParts}
use Rattle.spd_line.specs.declared.line.ProtocolItem.{ProtocolItem}
use Rattle.spd_line.specs.declared.line.Way.{Way}
use Rattle.spd_line.specs.Families.{is_range_of_family}

-- A line of that way is looked at in the direction.
abbrev pub has_direction : Way → Direction → Bool
has_direction Way.Both _ = true
has_direction Way.Outbound Outbound = true
has_direction Way.Inbound Inbound = true
has_direction _ _ = false

-- The number lies from the first to the last, both included.
abbrev pub lies_in : ℕ → ℕ → ℕ → Bool
lies_in first last n = nat_le first n && nat_le n last

-- The address item has the address of the family: ANY has each, a range those from its first to its last.
abbrev pub address_has : Family → ℕ → AddressItem → Bool
address_has _ _ AddressItem.Any = true
address_has family a (AddressItem.Range first last) =
    is_range_of_family family first last && lies_in (address_value first) (address_value last) a

-- The protocol item has the protocol: ANY has each and OPAQUE too.
abbrev pub protocol_has : ProtocolItem → ℕ → Bool
protocol_has ProtocolItem.Any _ = true
protocol_has ProtocolItem.Opaque p = p == opaque_protocol
protocol_has (ProtocolItem.Number n) p = p == n

-- The port item has the field: ANY has each and OPAQUE too, a range its numbers alone, never OPAQUE.
abbrev pub port_has : ℕ → PortItem → Bool
port_has _ PortItem.Any = true
port_has f PortItem.Opaque = f == opaque_field
port_has f (PortItem.Number first last) = lies_in first last f && nat_lt f opaque_field
port_has f (PortItem.TypeCode first last) = lies_in first last f && nat_lt f opaque_field

-- The line has the direction, and each of its five selectors has the point's value.
abbrev pub selects : Direction → PointFields → LineParts → Bool
selects d x line =
    has_direction line.way d
    && list_any (address_has x.family x.local) line.local
    && list_any (address_has x.family x.remote) line.remote
    && protocol_has line.protocol x.protocol
    && list_any (port_has x.local_field) line.local_port
    && list_any (port_has x.remote_field) line.remote_port
