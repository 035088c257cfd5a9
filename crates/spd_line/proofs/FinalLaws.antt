-- The two boxes of `final` have each point once.
use Rattle.std.proofs.Common.{◌≡◌, ℕ, ◌+◌, true, ◌&&◌, cond, nat_le, refl, arith}
use Rattle.std.specs.List.{All, count_by}
use Rattle.std.proofs.lemmas.Bool.{and_from}
use Rattle.std.proofs.lemmas.Bool.Decides.{nat_tests}
use Rattle.std.proofs.lemmas.List.Elements.{All-from_recursion}
use Rattle.sel_region.specs.Interval.{range_has, whole_range}
use Rattle.sel_region.specs.Region.{hits, one_if}
use Rattle.sel_box.specs.Boxes.{Values, box_has, ranges_have, ranges_of, values_of}
use Rattle.sel_text.specs.Family.{same_family}
use Rattle.sel_box.specs.Class.{opaque_field, opaque_protocol}
use Rattle.sel_text.specs.declared.family.Family.{Family}
use Rattle.sel_text.specs.declared.family.Family.TheVariants.{Four, Six}
use Rattle.sel_text.specs.Family.{last_address}
use Rattle.sel_box.specs.Point.{PointFields, is_point}
use Rattle.spd_line.specs.declared.judgement.Judgement.{Judgement}
use Rattle.spd_line.specs.declared.line_boxes.LineBox.{LineBox}
use Rattle.sel_box.specs.Bounds.{whole_box}
use Rattle.spd_line.specs.LineBoxes.{final_list}
use Rattle.spd_line.proofs.LineBoxLaws.{OnAxes, OnAxes-from_point}

on_whole : (last n : ℕ) → nat_le n last ≡ true → range_has (whole_range last) n ≡ true
on_whole last n within = grind (arith, nat_tests)

whole_box-has : (family : Family) (v : Values) → OnAxes family v → ranges_have (ranges_of (whole_box family)) v ≡ true
whole_box-has Four v on =
    and_from _ _ (on_whole (last_address Four) v.0 on.local)
    (and_from _ _ (on_whole (last_address Four) v.1.0 on.remote)
    (and_from _ _ (on_whole opaque_protocol v.1.1.0 on.protocol)
    (and_from _ _ (on_whole opaque_field v.1.1.1.0 on.local_field) (on_whole opaque_field v.1.1.1.1 on.remote_field))))
whole_box-has Six v on =
    and_from _ _ (on_whole (last_address Six) v.0 on.local)
    (and_from _ _ (on_whole (last_address Six) v.1.0 on.remote)
    (and_from _ _ (on_whole opaque_protocol v.1.1.0 on.protocol)
    (and_from _ _ (on_whole opaque_field v.1.1.1.0 on.local_field) (on_whole opaque_field v.1.1.1.1 on.remote_field))))

-- Exactly one of them has a point on the axes.
pub final_list-hits : (x : PointFields) → is_point x ≡ true →
    hits (λ (b : LineBox) (y : PointFields). box_has b.region y) final_list x ≡ 1
final_list-hits x on = go x.family (values_of x) (OnAxes-from_point x on)
  where
    go : (family : Family) (v : Values) → OnAxes family v →
        one_if (same_family Four family && ranges_have (ranges_of (whole_box Four)) v)
        + (one_if (same_family Six family && ranges_have (ranges_of (whole_box Six)) v) + 0) ≡ 1
    go Four v on = let has = whole_box-has Four v on in rw has refl
    go Six v on = let has = whole_box-has Six v on in rw has refl

pub final_list-count : (x : PointFields) → is_point x ≡ true →
    count_by (λ (b : LineBox). box_has b.region x) final_list ≡ 1
final_list-count x on = go x.family (values_of x) (OnAxes-from_point x on)
  where
    go : (family : Family) (v : Values) → OnAxes family v →
        0 + cond (same_family Four family && ranges_have (ranges_of (whole_box Four)) v) 1 0
        + cond (same_family Six family && ranges_have (ranges_of (whole_box Six)) v) 1 0 ≡ 1
    go Four v on = let has = whole_box-has Four v on in rw has refl
    go Six v on = let has = whole_box-has Six v on in rw has refl

-- Both are discarded.
pub final_list-judged : All (λ (b : LineBox). b.judgement ≡ Judgement.Discard) final_list
final_list-judged =
    All-from_recursion (λ (b : LineBox). b.judgement ≡ Judgement.Discard) final_list (refl, (refl, tt))
