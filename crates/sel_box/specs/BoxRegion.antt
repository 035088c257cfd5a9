-- Boxes as regions: which points two boxes have in common, and what is left of one without another.
use Rattle.std.specs.Prelude.{Bool, ◌&&◌, nat_le, List, [], ◌∷◌, Option, None, map, option_map, if◌then◌else◌}
use Rattle.sel_region.specs.Interval.{range_low, range_meet, range_minus, range_within}
use Rattle.sel_region.specs.Pair.{pair_at_most, pair_low, pair_meet, pair_minus, pair_within}
use Rattle.sel_box.specs.declared.any_box.AnyBox.{AnyBox}
use Rattle.sel_box.specs.Point.{PointFields}
use Rattle.sel_box.specs.Boxes.{Ranges, Values, values_of, family_of, ranges_of, box_from}
use Rattle.sel_text.specs.Family.{same_family}

-- Each of five values is at most the other's.
abbrev pub values_at_most : Values → Values → Bool
values_at_most = pair_at_most nat_le (pair_at_most nat_le (pair_at_most nat_le (pair_at_most nat_le nat_le)))

-- The least values of five ranges.
abbrev pub ranges_low : Ranges → Values
ranges_low = pair_low range_low (pair_low range_low (pair_low range_low (pair_low range_low range_low)))

-- The ranges that have the values of both, axis by axis: none where there are none on some axis.
abbrev pub ranges_meet : Ranges → Ranges → Option Ranges
ranges_meet =
    pair_meet range_meet (pair_meet range_meet (pair_meet range_meet (pair_meet range_meet range_meet)))

-- Each range lies within the other's.
abbrev pub ranges_within : Ranges → Ranges → Bool
ranges_within =
    pair_within range_within (pair_within range_within (pair_within range_within (pair_within range_within range_within)))

-- What is left of five ranges without five others: the pieces on one axis after the other, each as in a pair.
abbrev pub ranges_minus : Ranges → Ranges → List Ranges
ranges_minus =
    let meet_fields = pair_meet range_meet range_meet in
    let meet_from_protocol = pair_meet range_meet meet_fields in
    let meet_from_remote = pair_meet range_meet meet_from_protocol in
    let minus_fields = pair_minus range_meet range_meet range_minus range_minus in
    let minus_from_protocol = pair_minus range_meet meet_fields range_minus minus_fields in
    let minus_from_remote = pair_minus range_meet meet_from_protocol range_minus minus_from_protocol in
    pair_minus range_meet meet_from_remote range_minus minus_from_remote

-- One point is at most another where they are of one family, and each value is at most the other's.
abbrev pub box_at_most : PointFields → PointFields → Bool
box_at_most x y = same_family x.family y.family && values_at_most (values_of x) (values_of y)

-- The point of the five lows.
abbrev pub box_low : AnyBox → PointFields
box_low b = record {
  family = family_of b;
  local = (ranges_of b).first.low;
  remote = (ranges_of b).second.first.low;
  protocol = (ranges_of b).second.second.first.low;
  local_field = (ranges_of b).second.second.second.first.low;
  remote_field = (ranges_of b).second.second.second.second.low;
}

-- The box of the points that both have: none where the families differ.
abbrev pub box_meet : AnyBox → AnyBox → Option AnyBox
box_meet a b =
    if same_family (family_of a) (family_of b)
    then option_map (box_from (family_of a)) (ranges_meet (ranges_of a) (ranges_of b))
    else None

-- One box lies within another where they are of one family, and each range within the other's.
abbrev pub box_within : AnyBox → AnyBox → Bool
box_within a b = same_family (family_of a) (family_of b) && ranges_within (ranges_of a) (ranges_of b)

-- What is left of one box without another, axis by axis; the box alone where the families differ.
unfoldable pub box_minus : AnyBox → AnyBox → List AnyBox
box_minus a b =
    if same_family (family_of a) (family_of b)
    then map (box_from (family_of a)) (ranges_minus (ranges_of a) (ranges_of b))
    else a ∷ []
