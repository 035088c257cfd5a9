-- The least that packets show in ranges of protocols and fields, row by row of the table of classes.
use Rattle.std.specs.Prelude.{◌≡◌, ℕ, max, Bool, true, false, ◌&&◌, nat_le, List, [], ◌∷◌, Option, Some, None, option_map, if◌then◌else◌}
use Rattle.std.specs.Option.{option_or}
use Rattle.sel_region.specs.Interval.{Range, high_of, range_has}
use Rattle.sel_box.specs.declared.any_box.AnyBox.{AnyBox}
use Rattle.sel_box.specs.declared.any_box.AxisName.{AxisName}
use Rattle.sel_box.specs.declared.class.ClassRow.{ClassRow}
use Rattle.sel_box.specs.declared.shown.PacketRanges.{PacketRanges}
use Rattle.sel_box.specs.declared.shown.Shown.{Shown}
use Rattle.sel_box.specs.Class.{fields_fit, opaque_field}
use Rattle.sel_box.specs.Classes.{shape_allows}
use Rattle.sel_box.specs.Packet.{protocol_fits}
use Rattle.sel_box.specs.Boxes.{family_of, range_at}
use Rattle.sel_box.specs.LeastPacket.{at_most_then}
use Rattle.sel_box.specs.SomePoint.{some_shows}

-- The ranges of a box for a packet that goes out.
abbrev pub outbound_ranges : AnyBox → PacketRanges
outbound_ranges b = record {
  family = family_of b;
  source = (range_at AxisName.Local b).low;
  destination = (range_at AxisName.Remote b).low;
  protocols = range_at AxisName.Protocol b;
  source_fields = range_at AxisName.LocalField b;
  destination_fields = range_at AxisName.RemoteField b;
}

-- The same for one that comes in.
abbrev pub inbound_ranges : AnyBox → PacketRanges
inbound_ranges b = record {
  family = family_of b;
  source = (range_at AxisName.Remote b).low;
  destination = (range_at AxisName.Local b).low;
  protocols = range_at AxisName.Protocol b;
  source_fields = range_at AxisName.RemoteField b;
  destination_fields = range_at AxisName.LocalField b;
}

-- Some packet of the family shows this protocol and these fields, and they lie in the ranges.
abbrev pub is_shown : PacketRanges → Shown → Bool
is_shown r s =
    range_has r.protocols s.protocol && protocol_fits r.family s.protocol
    && range_has r.source_fields s.source_field && range_has r.destination_fields s.destination_field
    && fields_fit s.protocol s.source_field s.destination_field

-- Something is shown in the ranges.
abbrev pub shows_in : PacketRanges → Bool
shows_in r = some_shows r.family r.protocols r.source_fields r.destination_fields

-- The order: by protocol, then source field, then destination field.
abbrev pub shown_at_most : Shown → Shown → Bool
shown_at_most s t =
    at_most_then s.protocol t.protocol
    (at_most_then s.source_field t.source_field (nat_le s.destination_field t.destination_field))

-- It is shown, and at most all else that is.
pub record IsLeastShown (r : PacketRanges) (s : Shown) : Type 0 where
  pub found : is_shown r s ≡ true
  pub least : (t : Shown) → is_shown r t ≡ true → shown_at_most s t ≡ true

-- Nothing is shown.
abbrev pub HasNoneShown : PacketRanges → Type 0
HasNoneShown r = (s : Shown) → is_shown r s ≡ false

-- Where both fields lie in their ranges and the test passes, these fields.
abbrev pub fields_where : (ℕ → ℕ → Bool) → Range → Range → ℕ → ℕ → Option (ℕ × ℕ)
fields_where fits sources destinations source destination =
    if range_has sources source && range_has destinations destination && fits source destination
    then Some (source, destination)
    else None

-- The least fields in the ranges that pass the test of a class: each its range's least or OPAQUE.
abbrev pub least_fields : (ℕ → ℕ → Bool) → Range → Range → Option (ℕ × ℕ)
least_fields fits sources destinations =
    option_or (fields_where fits sources destinations sources.low destinations.low)
    (option_or (fields_where fits sources destinations sources.low opaque_field)
    (fields_where fits sources destinations opaque_field opaque_field))

-- The least that a row's packets show.
abbrev pub row_shows : PacketRanges → ClassRow → Option Shown
row_shows r row =
    let protocol = max row.first r.protocols.low in
    if nat_le protocol row.last && nat_le protocol (high_of r.protocols) && protocol_fits r.family protocol
    then option_map
    (λ fields. record { protocol = protocol; source_field = fields.0; destination_field = fields.1 })
    (least_fields (shape_allows row.shape row.top) r.source_fields r.destination_fields)
    else None

-- The least of the first row whose packets show something.
abbrev pub rows_show : PacketRanges → List ClassRow → Option Shown
rows_show r [] = None
rows_show r (row ∷ rows) = option_or (row_shows r row) (rows_show r rows)
