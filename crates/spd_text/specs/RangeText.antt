-- The text of the values and the ranges of a box (RFC 4301 section 4.4.1.1).
use Rattle.std.specs.Prelude.{ℕ, Bool, true, false, not, List, ◌++◌, ◌==◌, ◌&&◌, codes, decimal, if◌then◌else◌}
use Rattle.sel_box.specs.Class.{opaque_field, opaque_protocol}
use Rattle.sel_box.specs.Boxes.{family_of, range_at}
use Rattle.sel_box.specs.declared.any_box.AnyBox.{AnyBox}
use Rattle.sel_box.specs.declared.any_box.AxisName.{AxisName}
use Rattle.sel_region.specs.Interval.{Range, high_of}
use Rattle.sel_text.specs.declared.family.Family.{Family}
use Rattle.sel_text.specs.Family.{address_from}
use Rattle.sel_text.specs.Text.{address_text}

-- A protocol or a field: its number, and `opaque` for the number behind them all.
abbrev pub number_text : ℕ → ℕ → List ℕ
number_text opaque value = if value == opaque then codes "opaque" else decimal value

-- A value on an axis: an address of the family, a protocol or a field.
abbrev pub value_text : Family → AxisName → ℕ → List ℕ
value_text family AxisName.Local value = address_text (address_from family value)
value_text family AxisName.Remote value = address_text (address_from family value)
value_text family AxisName.Protocol value = number_text opaque_protocol value
value_text family AxisName.LocalField value = number_text opaque_field value
value_text family AxisName.RemoteField value = number_text opaque_field value

-- The axes of addresses.
abbrev pub is_address : AxisName → Bool
is_address AxisName.Local = true
is_address AxisName.Remote = true
is_address _ = false

-- The ends of all protocols or of all fields, OPAQUE with them.
abbrev pub is_any : AxisName → ℕ → ℕ → Bool
is_any AxisName.Protocol low high = (low == 0) && (high == opaque_protocol)
is_any AxisName.LocalField low high = (low == 0) && (high == opaque_field)
is_any AxisName.RemoteField low high = (low == 0) && (high == opaque_field)
is_any _ low high = false

-- A range: `any` for all protocols or fields, one protocol or field by itself, and else the first value
-- and the last with `-` between them, as always for addresses.
abbrev pub range_text : Family → AxisName → Range → List ℕ
range_text family axis range =
    if is_any axis range.low (high_of range) then codes "any"
    else if not (is_address axis) && (range.low == high_of range) then value_text family axis range.low
    else value_text family axis range.low ++ (codes "-" ++ value_text family axis (high_of range))

-- The range of a box on an axis.
unfoldable pub axis_text : AxisName → AnyBox → List ℕ
axis_text axis b = range_text (family_of b) axis (range_at axis b)

-- The five ranges of a box.
abbrev pub box_text : AnyBox → List ℕ
box_text b =
    axis_text AxisName.Local b ++ (codes " " ++ (axis_text AxisName.Remote b ++ (codes " " ++ (axis_text AxisName.Protocol b
    ++ (codes " " ++ (axis_text AxisName.LocalField b ++ (codes " " ++ axis_text AxisName.RemoteField b)))))))
