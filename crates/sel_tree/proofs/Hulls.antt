-- A box that meets another does so too where it lies in a hull.
use Rattle.std.proofs.Common.{◌≡◌, Bool, true, false, ◌&&◌, Option, Some, None, refl, sym, ap, ◌∙◌}
use Rattle.std.specs.Option.{is_some}
use Rattle.std.proofs.lemmas.Bool.{and_parts, and_from}
use Rattle.sel_region.specs.Region.{some_has}
use Rattle.sel_region.proofs.Regions.{within-by_points}
use Rattle.sel_box.specs.declared.any_box.AnyBox.{AnyBox}
use Rattle.sel_box.specs.Point.{PointFields}
use Rattle.sel_box.specs.Boxes.{box_has}
use Rattle.sel_box.specs.BoxRegion.{box_low, box_meet, box_within}
use Rattle.sel_box.specs.laws.BoxLaws.{box_laws}
use Rattle.sel_tree.specs.FirstMet.{meets}

-- there is a box where some box has a point
some-from_has : (meet : Option AnyBox) (x : PointFields) → some_has box_has meet x ≡ true → is_some meet ≡ true
some-from_has None x h = h
some-from_has (Some m) x h = refl

pub hull-meets : (other hull region : AnyBox) → box_within other hull ≡ true → meets region other ≡ true → meets region hull ≡ true
hull-meets other hull region inside met = go (box_meet other region) (box_laws.meet_has other region) met
  where
    go : (meet : Option AnyBox) → ((x : PointFields) → some_has box_has meet x ≡ (box_has other x && box_has region x)) →
        is_some meet ≡ true → is_some (box_meet hull region) ≡ true
    go None by_points is = cc
    go (Some m) by_points is =
        let x = box_low m in
        let parts = and_parts (box_has other x) (box_has region x) (sym (by_points x) ∙ box_laws.has_low m) in
        let in_hull = (within-by_points box_laws other hull).0 inside x parts.0 in
        some-from_has (box_meet hull region) x (box_laws.meet_has hull region x ∙ and_from _ _ in_hull parts.1)
