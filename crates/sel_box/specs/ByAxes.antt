-- A box axis by axis: its points, and the pieces that are left of it without another.
use Rattle.std.specs.Prelude.{◌≡◌, ◌≤◌, min, max, List, ◌++◌, map}
use Rattle.sel_region.specs.Interval.{Range, high_of, range_from, piece_below, piece_above}
use Rattle.sel_region.specs.Pair.{pair_of}
use Rattle.sel_box.specs.declared.any_box.AnyBox.{AnyBox}
use Rattle.sel_box.specs.declared.any_box.AxisName.{AxisName}
use Rattle.sel_box.specs.declared.any_box.AxisName.TheVariants.{Local, Remote, Protocol, LocalField, RemoteField}
use Rattle.sel_box.specs.Point.{PointFields}
use Rattle.sel_box.specs.Boxes.{Ranges, axis_range, box_from, family_of, range_at, ranges_of, value_at}

-- The point is of the box's family, and on each axis its value lies from the low to the high.
pub record LiesByAxes (b : AnyBox) (x : PointFields) : Type 0 where
  pub of_family : family_of b ≡ x.family
  pub from_low : (axis : AxisName) → (range_at axis b).low ≤ value_at axis x
  pub to_high : (axis : AxisName) → value_at axis x ≤ high_of (range_at axis b)

-- Five ranges, one an axis.
abbrev pub five : Range → Range → Range → Range → Range → Ranges
five local remote protocol local_field remote_field =
    pair_of local (pair_of remote (pair_of protocol (pair_of local_field remote_field)))

-- The numbers that two ranges that meet have in common: from the greater low to the lesser high.
abbrev pub in_common : Range → Range → Range
in_common a b = range_from (max a.low b.low) (min (high_of a) (high_of b))

-- What is left of a range that meets another: the numbers below that one, then those above it.
abbrev pub below_and_above : Range → Range → List Range
below_and_above a b = piece_below a b ++ piece_above a b

-- What is left of five ranges that meet five others: on each axis in turn what lies below and above the other,
-- with what both have in common on the axes before, and the whole range on the axes after.
unfoldable pub ranges_by_axes : Ranges → Ranges → List Ranges
ranges_by_axes a b =
    let whole : AxisName → Range = λ axis. axis_range axis a in
    let common : AxisName → Range = λ axis. in_common (axis_range axis a) (axis_range axis b) in
    let left : AxisName → List Range = λ axis. below_and_above (axis_range axis a) (axis_range axis b) in
    let on_local = map (λ piece. five piece (whole Remote) (whole Protocol) (whole LocalField) (whole RemoteField)) (left Local) in
    let on_remote = map (λ piece. five (common Local) piece (whole Protocol) (whole LocalField) (whole RemoteField)) (left Remote) in
    let on_protocol = map (λ piece. five (common Local) (common Remote) piece (whole LocalField) (whole RemoteField)) (left Protocol) in
    let on_local_field = map (λ piece. five (common Local) (common Remote) (common Protocol) piece (whole RemoteField)) (left LocalField) in
    let on_remote_field = map (λ piece. five (common Local) (common Remote) (common Protocol) (common LocalField) piece) (left RemoteField) in
    on_local ++ (on_remote ++ (on_protocol ++ (on_local_field ++ on_remote_field)))

-- What is left of a box that meets another.
abbrev pub pieces_by_axes : AnyBox → AnyBox → List AnyBox
pieces_by_axes a b = map (box_from (family_of a)) (ranges_by_axes (ranges_of a) (ranges_of b))
