-- Selectors cut to a box, and when what is left can be written.
use Rattle.std.specs.Prelude.{ℕ, Bool, ◌&&◌, nat_le, List, [], Option, Some, None, if◌then◌else◌}
use Rattle.std.specs.List.{find, filter_map, flat_map, range_with_len}
use Rattle.std.specs.Option.{option_and_then, unwrap_or}
use Rattle.sel_box.specs.declared.any_box.AnyBox.{AnyBox}
use Rattle.sel_box.specs.declared.any_box.AxisName.{AxisName}
use Rattle.sel_box.specs.Boxes.{family_of, range_at}
use Rattle.sel_region.specs.Interval.{Range, high_of}
use Rattle.sel_text.specs.Family.{same_family}
use Rattle.ts_payload.specs.declared.selector.Ts.{Ts}
use Rattle.ts_span.specs.declared.spanning.TsSpan.{TsSpan}
use Rattle.ts_span.specs.Span.{span_of}
use Rattle.ts_span.specs.Spelling.{is_writable, spelled}
use Rattle.ts_cover.specs.Pairs.{meet_bounds}
use Rattle.ts_cover.specs.RealParts.{of_protocols, reaches}

-- The low and the high of a range.
abbrev pub ends_of : Range → ℕ × ℕ
ends_of range = (range.low, high_of range)

-- What a box has on the local side, and on the remote side.
abbrev pub local_side : AnyBox → TsSpan
local_side region = record {
  family = family_of region;
  addresses = ends_of (range_at AxisName.Local region);
  protocols = ends_of (range_at AxisName.Protocol region);
  fields = ends_of (range_at AxisName.LocalField region);
}

abbrev pub remote_side : AnyBox → TsSpan
remote_side region = record {
  family = family_of region;
  addresses = ends_of (range_at AxisName.Remote region);
  protocols = ends_of (range_at AxisName.Protocol region);
  fields = ends_of (range_at AxisName.RemoteField region);
}

-- Both sides of the box can be written: its protocol is one number from 1 to 255, or it has all protocols and on each side all
-- fields or OPAQUE alone.
abbrev pub can_write : AnyBox → Bool
can_write region = is_writable (local_side region) && is_writable (remote_side region)

-- The part of a box that has one protocol, the first from 1 to 255 with which it has a real point in some of the boxes.
unfoldable pub first_part : List AnyBox → AnyBox → Option AnyBox
first_part boxes region =
    find (reaches boxes) (filter_map (λ protocol. of_protocols (protocol, protocol) region) (range_with_len 1 255))

-- The box where it can be written, and else that part of it.
unfoldable pub written_part : List AnyBox → AnyBox → AnyBox
written_part boxes region = if can_write region then region else unwrap_or (first_part boxes region) region

-- What two spans have in common: none where they are of two families or a range is empty.
abbrev pub span_meet : TsSpan → TsSpan → Option TsSpan
span_meet a b =
    let addresses = meet_bounds a.addresses b.addresses in
    let protocols = meet_bounds a.protocols b.protocols in
    let fields = meet_bounds a.fields b.fields in
    if same_family a.family b.family
    && (nat_le addresses.0 addresses.1 && (nat_le protocols.0 protocols.1 && nat_le fields.0 fields.1))
    then Some (record { family = a.family; addresses = addresses; protocols = protocols; fields = fields })
    else None

-- The selectors of a span, where there is one.
abbrev pub spelled_some : Option TsSpan → List Ts
spelled_some None = []
spelled_some (Some span) = spelled span

-- A selector cut to a side of a box.
abbrev pub cut_selector : TsSpan → Ts → List Ts
cut_selector side selector = spelled_some (option_and_then (λ span. span_meet span side) (span_of selector))

-- Selectors cut to a side of a box, in order: each is written as none, one or two.
unfoldable pub cut_selectors : TsSpan → List Ts → List Ts
cut_selectors side selectors = flat_map (cut_selector side) selectors
