-- A box in two parts.
use Rattle.std.specs.Prelude.{ℕ, ◌+◌, ◌&&◌, nat_le, nat_lt, Option, Some, None, option_map, if◌then◌else◌}
use Rattle.sel_region.specs.Interval.{Range, high_of, range_from}
use Rattle.sel_region.specs.Pair.{pair_of}
use Rattle.sel_box.specs.declared.any_box.AnyBox.{AnyBox}
use Rattle.sel_box.specs.declared.any_box.AxisName.{AxisName}
use Rattle.sel_box.specs.declared.any_box.AxisName.TheVariants.{Local, Remote, Protocol, LocalField, RemoteField}
use Rattle.sel_box.specs.Boxes.{Ranges, axis_range, box_from, family_of, ranges_of}

-- The same ranges, but this one on an axis.
abbrev pub with_range : AxisName → Range → Ranges → Ranges
with_range Local range r = pair_of range r.second
with_range Remote range r = pair_of r.first (pair_of range r.second.second)
with_range Protocol range r = pair_of r.first (pair_of r.second.first (pair_of range r.second.second.second))
with_range LocalField range r =
    let rest = r.second.second in
    pair_of r.first (pair_of r.second.first (pair_of rest.first (pair_of range rest.second.second)))
with_range RemoteField range r =
    let rest = r.second.second in
    pair_of r.first (pair_of r.second.first (pair_of rest.first (pair_of rest.second.first range)))

-- The numbers of a range up to a value, and those above it, where there are some of either.
abbrev pub split_range : ℕ → Range → Option (Range × Range)
split_range value r =
    if nat_le r.low value && nat_lt value (high_of r)
    then Some (range_from r.low value, range_from (value + 1) (high_of r)) else None

-- Five ranges, of which that on the axis is split.
abbrev pub split_ranges : AxisName → ℕ → Ranges → Option (Ranges × Ranges)
split_ranges axis value r =
    option_map (λ (parts : Range × Range). (with_range axis parts.0 r, with_range axis parts.1 r))
    (split_range value (axis_range axis r))

-- The part of a box up to a value on an axis, and the rest.
abbrev pub split_box : AxisName → ℕ → AnyBox → Option (AnyBox × AnyBox)
split_box axis value b =
    option_map (λ (parts : Ranges × Ranges). (box_from (family_of b) parts.0, box_from (family_of b) parts.1))
    (split_ranges axis value (ranges_of b))
