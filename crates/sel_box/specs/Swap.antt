-- The two sides of a box or a point, exchanged.
use Rattle.sel_region.specs.Pair.{pair_of}
use Rattle.sel_box.specs.declared.any_box.AnyBox.{AnyBox}
use Rattle.sel_box.specs.Point.{PointFields}
use Rattle.sel_box.specs.Boxes.{Ranges, family_of, ranges_of, box_from}

-- The ranges with local and remote exchanged, addresses and fields.
abbrev pub ranges_swapped : Ranges → Ranges
ranges_swapped r =
    let rest = r.second.second in
    let fields = pair_of rest.second.second rest.second.first in
    pair_of r.second.first (pair_of r.first (pair_of rest.first fields))

-- The box with local and remote exchanged, addresses and fields.
abbrev pub box_swapped : AnyBox → AnyBox
box_swapped b = box_from (family_of b) (ranges_swapped (ranges_of b))

-- The point with local and remote exchanged, addresses and fields.
abbrev pub point_swapped : PointFields → PointFields
point_swapped x = record {
  family = x.family;
  local = x.remote;
  remote = x.local;
  protocol = x.protocol;
  local_field = x.remote_field;
  remote_field = x.local_field;
}
