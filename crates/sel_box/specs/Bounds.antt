-- Boxes from their bounds.
use Rattle.std.specs.Prelude.{ℕ, List, [], ◌∷◌, Option, None, option_map}
use Rattle.sel_region.specs.Interval.{range_on, whole_range}
use Rattle.sel_region.specs.Pair.{both, pair_of}
use Rattle.sel_box.specs.declared.any_box.AnyBox.{AnyBox}
use Rattle.sel_box.specs.declared.any_box.AxisName.{AxisName}
use Rattle.sel_text.specs.declared.family.Family.{Family}
use Rattle.sel_box.specs.Class.{opaque_field, opaque_protocol}
use Rattle.sel_text.specs.Family.{last_address}
use Rattle.sel_box.specs.Boxes.{Ranges, box_from}

-- The last number of an axis, where addresses have this last one.
abbrev pub axis_last : ℕ → AxisName → ℕ
axis_last address AxisName.Local = address
axis_last address AxisName.Remote = address
axis_last address AxisName.Protocol = opaque_protocol
axis_last address AxisName.LocalField = opaque_field
axis_last address AxisName.RemoteField = opaque_field

-- The last number of an axis in a family.
abbrev pub last_on : Family → AxisName → ℕ
last_on family axis = axis_last (last_address family) axis

-- The ranges of five lows and highs, in the order of the axes, where each is a range of its axis.
abbrev pub ranges_on : ℕ → List (ℕ × ℕ) → Option Ranges
ranges_on address (local ∷ remote ∷ protocol ∷ local_field ∷ remote_field ∷ []) =
    let fields = both (range_on opaque_field local_field.0 local_field.1) (range_on opaque_field remote_field.0 remote_field.1) in
    let after_remote = both (range_on opaque_protocol protocol.0 protocol.1) fields in
    let after_local = both (range_on address remote.0 remote.1) after_remote in
    both (range_on address local.0 local.1) after_local
ranges_on address _ = None

-- The box of a family with these lows and highs.
abbrev pub box_of : Family → List (ℕ × ℕ) → Option AnyBox
box_of family bounds = option_map (box_from family) (ranges_on (last_address family) bounds)

-- All points of a family.
abbrev pub whole_box : Family → AnyBox
whole_box family =
    let addresses = whole_range (last_address family) in
    let fields = whole_range opaque_field in
    box_from family (pair_of addresses (pair_of addresses (pair_of (whole_range opaque_protocol) (pair_of fields fields))))
