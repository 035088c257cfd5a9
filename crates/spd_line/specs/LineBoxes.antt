-- The boxes of a line: each is a product of one range of each selector (RFC 4301 section 4.4.1.1).
use Rattle.std.specs.Prelude.{ℕ, ◌-◌, Bool, true, false, min, nat_le, List, [], ◌∷◌, ◌++◌, map, if◌then◌else◌}
use Rattle.std.specs.List.{flat_map}
use Rattle.sel_region.specs.declared.pair.Pair.{Pair}
use Rattle.sel_region.specs.Interval.{Range, range_from, whole_range}
use Rattle.sel_region.specs.Pair.{pair_of}
use Rattle.sel_box.specs.declared.any_box.AnyBox.{AnyBox}
use Rattle.sel_box.specs.declared.packet.Direction.{Direction}
use Rattle.sel_text.specs.declared.family.Family.{Family}
use Rattle.sel_text.specs.declared.family.Family.TheVariants.{Four, Six}
use Rattle.sel_box.specs.BoxRegion.{box_low}
use Rattle.sel_box.specs.Bounds.{whole_box}
use Rattle.sel_box.specs.Boxes.{Ranges, box_from}
use Rattle.sel_box.specs.Class.{opaque_field, opaque_protocol}
use Rattle.sel_text.specs.Family.{address_value, last_address}
use Rattle.sel_text.specs.declared.item.AddressItem.{AddressItem}
use Rattle.sel_text.specs.declared.port.PortItem.{PortItem}
use Rattle.spd_line.specs.declared.line_boxes.LineBox.{LineBox}
use Rattle.spd_line.specs.declared.judgement.Judgement.{Judgement}
use Rattle.spd_line.specs.declared.line.LineParts.{LineParts}
use Rattle.spd_line.specs.declared.line.ProtocolItem.{ProtocolItem}
use Rattle.spd_line.specs.Families.{is_range_of_family}
use Rattle.spd_line.specs.Judged.{judged}
use Rattle.spd_line.specs.Selects.{has_direction}

-- The range from a first number up to a last, where they are in order.
abbrev pub ordered_range : ℕ → ℕ → List Range
ordered_range first last = if nat_le first last then range_from first last ∷ [] else []

-- The ranges of an address item in a family: ANY is all addresses of each.
abbrev pub address_ranges : Family → AddressItem → List Range
address_ranges family AddressItem.Any = whole_range (last_address family) ∷ []
address_ranges family (AddressItem.Range first last) =
    if is_range_of_family family first last then ordered_range (address_value first) (address_value last) else []

-- ANY, with OPAQUE as its last number. Where it is flagged, its other numbers stand apart from OPAQUE,
-- of which no packet has a value to populate from.
abbrev pub any_ranges : Bool → ℕ → List Range
any_ranges true opaque = range_from 0 (opaque - 1) ∷ range_from opaque opaque ∷ []
any_ranges false opaque = whole_range opaque ∷ []

-- The ranges of a protocol item, flagged or not.
abbrev pub protocol_ranges : Bool → ProtocolItem → List Range
protocol_ranges flagged ProtocolItem.Any = any_ranges flagged opaque_protocol
protocol_ranges _ ProtocolItem.Opaque = range_from opaque_protocol opaque_protocol ∷ []
protocol_ranges _ (ProtocolItem.Number protocol) = range_from protocol protocol ∷ []

-- The ranges of a port item, flagged or not: a range of numbers ends before OPAQUE.
abbrev pub port_ranges : Bool → PortItem → List Range
port_ranges flagged PortItem.Any = any_ranges flagged opaque_field
port_ranges _ PortItem.Opaque = range_from opaque_field opaque_field ∷ []
port_ranges _ (PortItem.Number first last) = ordered_range first (min last (opaque_field - 1))
port_ranges _ (PortItem.TypeCode first last) = ordered_range first (min last (opaque_field - 1))

-- Each of the first with each of the second, in the order of the first and within it of the second.
unfoldable pub products : {R S : Type 0} → List R → List S → List (Pair R S)
products firsts seconds = flat_map (λ first. map (λ second. pair_of first second) seconds) firsts

-- The ranges of a line that are alike in both families: protocol, local and remote port.
abbrev pub field_ranges : LineParts → List (Pair Range (Pair Range Range))
field_ranges line =
    products (protocol_ranges line.pfp.protocol line.protocol)
    (products (flat_map (port_ranges line.pfp.local_port) line.local_port)
    (flat_map (port_ranges line.pfp.remote_port) line.remote_port))

-- The products of a line's ranges in a family: local, remote, protocol, local and remote port.
unfoldable pub line_ranges : Family → LineParts → List Ranges
line_ranges family line =
    products (flat_map (address_ranges family) line.local)
    (products (flat_map (address_ranges family) line.remote) (field_ranges line))

-- The boxes of a line in a family, and in both, IPv4 before IPv6.
abbrev pub family_regions : Family → LineParts → List AnyBox
family_regions family line = map (box_from family) (line_ranges family line)

abbrev pub line_regions : LineParts → List AnyBox
line_regions line = family_regions Four line ++ family_regions Six line

-- A box with the line's judgement there: its low point is judged as all of its points are.
abbrev pub line_box : Direction → LineParts → AnyBox → LineBox
line_box d line b = record { region = b; judgement = judged d (box_low b) line }

-- The boxes of a line in a direction, each with its judgement; none where the line lacks the direction.
abbrev pub line_boxes : Direction → LineParts → List LineBox
line_boxes d line = if has_direction line.way d then map (line_box d line) (line_regions line) else []

-- What `final`, the line behind the last, discards: all points of either family.
abbrev pub final_list : List LineBox
final_list =
    record { region = whole_box Four; judgement = Judgement.Discard }
    ∷ record { region = whole_box Six; judgement = Judgement.Discard } ∷ []
