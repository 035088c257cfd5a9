-- Whether a box has a real point, and whether it has a packet: each protocol is tried (RFC 4301 section
-- 4.4.1).
use Rattle.std.specs.Prelude.{ℕ, ◌+◌, Bool, ◌&&◌, ◌||◌, nat_le, List, [], ◌∷◌}
use Rattle.std.specs.List.{list_any, range_with_len}
use Rattle.sel_region.specs.Interval.{Range, range_has}
use Rattle.sel_box.specs.declared.any_box.AnyBox.{AnyBox}
use Rattle.sel_box.specs.declared.any_box.AxisName.{AxisName}
use Rattle.sel_text.specs.declared.family.Family.{Family}
use Rattle.sel_box.specs.Class.{fields_fit, opaque_field, opaque_protocol}
use Rattle.sel_box.specs.Packet.{protocol_fits}
use Rattle.sel_text.specs.Family.{last_address}
use Rattle.sel_box.specs.Boxes.{family_of, range_at}

-- Each protocol, OPAQUE being the last.
abbrev pub all_protocols : List ℕ
all_protocols = range_with_len 0 (opaque_protocol + 1)

-- The values of a field that are worth a trial: the least of its range, and OPAQUE.
abbrev pub fields_to_try : Range → List ℕ
fields_to_try range = range.low ∷ opaque_field ∷ []

-- Packets of the protocol can show these fields, source first, and both lie in their ranges.
abbrev pub shows : ℕ → Range → Range → ℕ → ℕ → Bool
shows protocol sources destinations source destination =
    range_has sources source && range_has destinations destination && fields_fit protocol source destination

-- Packets of the protocol can show fields in these ranges, source first.
abbrev pub shows_fields : ℕ → Range → Range → Bool
shows_fields protocol sources destinations =
    list_any
    (λ source. list_any (shows protocol sources destinations source) (fields_to_try destinations))
    (fields_to_try sources)

-- Packets of the family can, where their protocol lies in this range too.
unfoldable pub some_shows : Family → Range → Range → Range → Bool
some_shows family protocols sources destinations =
    list_any
    (λ protocol. range_has protocols protocol && protocol_fits family protocol && shows_fields protocol sources destinations)
    all_protocols

-- On both sides the least address is one of the family.
abbrev pub has_addresses : AnyBox → Bool
has_addresses b =
    nat_le (range_at AxisName.Local b).low (last_address (family_of b))
    && nat_le (range_at AxisName.Remote b).low (last_address (family_of b))

-- Packets show something in the box's ranges: those that go out have their source on the local side, and
-- those that come in on the remote side.
abbrev pub shows_outbound : AnyBox → Bool
shows_outbound b =
    some_shows (family_of b) (range_at AxisName.Protocol b) (range_at AxisName.LocalField b) (range_at AxisName.RemoteField b)

abbrev pub shows_inbound : AnyBox → Bool
shows_inbound b =
    some_shows (family_of b) (range_at AxisName.Protocol b) (range_at AxisName.RemoteField b) (range_at AxisName.LocalField b)

-- The box has a packet: the outbound view of one lies in it.
unfoldable pub has_packet : AnyBox → Bool
has_packet b = has_addresses b && shows_outbound b

-- The box has a real point: the view of a packet in some direction lies in it.
unfoldable pub has_real_point : AnyBox → Bool
has_real_point b = has_addresses b && (shows_outbound b || shows_inbound b)
