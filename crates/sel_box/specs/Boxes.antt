-- Boxes: the points of one family whose five values each lie in a range (RFC 4301 section 4.4.1.1).
use Rattle.std.specs.Prelude.{ℕ, Bool, ◌&&◌}
use Rattle.sel_region.specs.declared.pair.Pair.{Pair}
use Rattle.sel_region.specs.Interval.{Range, range_has}
use Rattle.sel_region.specs.Pair.{pair_has}
use Rattle.sel_box.specs.declared.any_box.AnyBox.{AnyBox}
use Rattle.sel_box.specs.declared.any_box.AxisName.{AxisName}
use Rattle.sel_text.specs.declared.family.Family.{Family}
use Rattle.sel_text.specs.declared.family.Family.TheVariants.{Four, Six}
use Rattle.sel_text.specs.Family.{same_family}
use Rattle.sel_box.specs.Point.{PointFields}

-- Five ranges: local and remote address, protocol, local and remote field.
abbrev pub Ranges : Type 0
Ranges = Pair Range (Pair Range (Pair Range (Pair Range Range)))

-- Five values, in the same order.
abbrev pub Values : Type 0
Values = ℕ × (ℕ × (ℕ × (ℕ × ℕ)))

-- The values of a point.
abbrev pub values_of : PointFields → Values
values_of x = (x.local, (x.remote, (x.protocol, (x.local_field, x.remote_field))))

-- The family of a box, and its ranges.
abbrev pub family_of : AnyBox → Family
family_of (AnyBox.Four ranges) = Four
family_of (AnyBox.Six ranges) = Six

abbrev pub ranges_of : AnyBox → Ranges
ranges_of (AnyBox.Four ranges) = ranges
ranges_of (AnyBox.Six ranges) = ranges

-- The box of a family with these ranges.
abbrev pub box_from : Family → Ranges → AnyBox
box_from Four ranges = AnyBox.Four ranges
box_from Six ranges = AnyBox.Six ranges

-- The range on an axis.
abbrev pub axis_range : AxisName → Ranges → Range
axis_range AxisName.Local r = r.first
axis_range AxisName.Remote r = r.second.first
axis_range AxisName.Protocol r = r.second.second.first
axis_range AxisName.LocalField r = r.second.second.second.first
axis_range AxisName.RemoteField r = r.second.second.second.second

-- The range of a box on an axis.
abbrev pub range_at : AxisName → AnyBox → Range
range_at axis b = axis_range axis (ranges_of b)

-- The value of a point on an axis.
abbrev pub value_at : AxisName → PointFields → ℕ
value_at AxisName.Local x = x.local
value_at AxisName.Remote x = x.remote
value_at AxisName.Protocol x = x.protocol
value_at AxisName.LocalField x = x.local_field
value_at AxisName.RemoteField x = x.remote_field

-- Each of five values lies in its range.
abbrev pub ranges_have : Ranges → Values → Bool
ranges_have = pair_has range_has (pair_has range_has (pair_has range_has (pair_has range_has range_has)))

-- The box has the point: they are of one family, and each value lies in its range.
abbrev pub box_has : AnyBox → PointFields → Bool
box_has b x = same_family (family_of b) x.family && ranges_have (ranges_of b) (values_of x)
