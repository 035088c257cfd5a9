-- A box and its points, axis by axis.
use Rattle.std.proofs.Common.{◌≡◌, ◌≤◌, ℕ, true, ◌↔◌, sym, ap, ◌∙◌, arith}
use Rattle.std.proofs.lemmas.Bool.{and_parts, and_from}
use Rattle.std.proofs.lemmas.Bool.Decides.{nat_tests}
use Rattle.sel_region.specs.Interval.{Range, high_of, range_has}
use Rattle.sel_region.specs.Pair.{pair_has}
use Rattle.sel_box.specs.declared.any_box.AnyBox.{AnyBox}
use Rattle.sel_box.specs.declared.any_box.AxisName.{AxisName}
use Rattle.sel_box.specs.Point.{PointFields}
use Rattle.sel_box.specs.Boxes.{values_of, family_of, ranges_of, range_at, value_at, ranges_have, box_has}
use Rattle.sel_text.specs.Family.{same_family}
use Rattle.sel_box.specs.laws.BoxLaws.{same_family-refl, equal_from_same}
use Rattle.sel_box.specs.ByAxes.{LiesByAxes}

low_below : (r : Range) (n : ℕ) → range_has r n ≡ true → r.low ≤ n
low_below r n h = grind (arith, nat_tests)

high_above : (r : Range) (n : ℕ) → range_has r n ≡ true → n ≤ high_of r
high_above r n h = grind (arith, nat_tests)

has_between : (r : Range) (n : ℕ) → r.low ≤ n → n ≤ high_of r → range_has r n ≡ true
has_between r n below above = grind (arith, nat_tests)

-- Where the values lie in the ranges, each does.
each_axis : (b : AnyBox) (x : PointFields) → ranges_have (ranges_of b) (values_of x) ≡ true →
    (axis : AxisName) → range_has (range_at axis b) (value_at axis x) ≡ true
each_axis b x h axis =
    let r = ranges_of b in
    let v = values_of x in
    let fields_have = pair_has range_has range_has in
    let protocol_has = pair_has range_has fields_have in
    let remote_has = pair_has range_has protocol_has in
    let local = and_parts (range_has r.first v.0) (remote_has r.second v.1) h in
    let remote = and_parts (range_has r.second.first v.1.0) (protocol_has r.second.second v.1.1) local.1 in
    let protocol = and_parts (range_has r.second.second.first v.1.1.0) (fields_have r.second.second.second v.1.1.1) remote.1 in
    let fields = and_parts (range_has r.second.second.second.first v.1.1.1.0) (range_has r.second.second.second.second v.1.1.1.1) protocol.1 in
    elim axis as (λ axis. range_has (range_at axis b) (value_at axis x) ≡ true) [
      | AxisName.Local ↦ local.0
      | AxisName.Remote ↦ remote.0
      | AxisName.Protocol ↦ protocol.0
      | AxisName.LocalField ↦ fields.0
      | AxisName.RemoteField ↦ fields.1
    ]

-- And where each does, they do.
all_axes : (b : AnyBox) (x : PointFields) →
    ((axis : AxisName) → range_has (range_at axis b) (value_at axis x) ≡ true) →
    ranges_have (ranges_of b) (values_of x) ≡ true
all_axes b x h =
    and_from _ _ (h AxisName.Local)
    (and_from _ _ (h AxisName.Remote)
    (and_from _ _ (h AxisName.Protocol) (and_from _ _ (h AxisName.LocalField) (h AxisName.RemoteField))))

pub box_has-by_axes : (b : AnyBox) (x : PointFields) → (box_has b x ≡ true) ↔ LiesByAxes b x
box_has-by_axes b x = (apart, together)
  where
    apart : box_has b x ≡ true → LiesByAxes b x
    apart h =
        let parts = and_parts (same_family (family_of b) x.family) (ranges_have (ranges_of b) (values_of x)) h in
        let on_axis = each_axis b x parts.1 in
        record {
          of_family = equal_from_same (family_of b) x.family parts.0;
          from_low = λ axis. low_below (range_at axis b) (value_at axis x) (on_axis axis);
          to_high = λ axis. high_above (range_at axis b) (value_at axis x) (on_axis axis);
        }

    together : LiesByAxes b x → box_has b x ≡ true
    together lies =
        let of_family = ap (same_family (family_of b)) (sym lies.of_family) ∙ same_family-refl (family_of b) in
        and_from _ _ of_family (all_axes b x (λ axis. has_between (range_at axis b) (value_at axis x) (lies.from_low axis) (lies.to_high axis)))
