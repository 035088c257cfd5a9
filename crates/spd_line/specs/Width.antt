-- How many boxes a line's selectors make: each box is a product of one interval of each selector.
use Rattle.std.specs.Prelude.{ℕ, ◌+◌, ◌*◌, ◌≤◌, Bool, List, count_by, sum_by, if◌then◌else◌}
use Rattle.std.specs.List.{All}
use Rattle.sel_text.specs.declared.family.Family.{Family}
use Rattle.sel_text.specs.declared.family.Family.TheVariants.{Four, Six}
use Rattle.sel_text.specs.declared.port.PortItem.{PortItem}
use Rattle.sel_text.specs.Item as item
use Rattle.sel_text.specs.Port as port
use Rattle.spd_line.specs.declared.line.LineParts.{LineParts}
use Rattle.spd_line.specs.declared.line.ProtocolItem.{ProtocolItem}
use Rattle.spd_line.specs.Families.{is_of_family}

-- The pairs of a local and a remote range of one family; ANY is a range of each.
abbrev pub family_pairs : Family → LineParts → ℕ
family_pairs family parts = count_by (is_of_family family) parts.local * count_by (is_of_family family) parts.remote

abbrev pub range_pairs : LineParts → ℕ
range_pairs parts = family_pairs Four parts + family_pairs Six parts

-- The intervals of a protocol: one, but a flagged ANY makes two, its numbers and OPAQUE.
abbrev pub protocol_parts : Bool → ProtocolItem → ℕ
protocol_parts flagged ProtocolItem.Any = if flagged then 2 else 1
protocol_parts _ _ = 1

-- The intervals of a port item likewise, and of all items of a selector.
abbrev pub item_parts : Bool → PortItem → ℕ
item_parts flagged PortItem.Any = if flagged then 2 else 1
item_parts _ _ = 1

abbrev pub port_parts : Bool → List PortItem → ℕ
port_parts flagged items = sum_by (item_parts flagged) items

-- The boxes of a line, by its parts.
abbrev pub box_count : LineParts → ℕ
box_count parts =
    range_pairs parts
    * (protocol_parts parts.pfp.protocol parts.protocol
    * (port_parts parts.pfp.local_port parts.local_port * port_parts parts.pfp.remote_port parts.remote_port))

-- No number of a port item is above 65535, and its numbers are in order too.
abbrev pub ArePorts : PortItem → Type 0
ArePorts (PortItem.Number first last) = last ≤ 65535
ArePorts (PortItem.TypeCode first last) = last ≤ 65535
ArePorts _ = Unit {0}

abbrev pub IsPort : PortItem → Type 0
IsPort of = port.ArePortsInOrder of × ArePorts of

-- Each range of a line has a number, and none a port above 65535.
pub record AreInOrder (parts : LineParts) : Type 0 where
  pub local : All item.AreAddressesInOrder parts.local
  pub remote : All item.AreAddressesInOrder parts.remote
  pub local_port : All IsPort parts.local_port
  pub remote_port : All IsPort parts.remote_port
