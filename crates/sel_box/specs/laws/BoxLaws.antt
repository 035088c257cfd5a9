-- Boxes are regions of points.
use Rattle.std.proofs.Common.{◌≡◌, Bool, true, false, not, ◌&&◌, cond, ◌+◌, [], ◌∷◌, map, Option, Some, None, IsNone, MatchBool, refl, sym, ap, ◌∙◌, arith}
use Rattle.std.specs.Option.{option_map}
use Rattle.std.proofs.Math.Bool.{and_comm}
use Rattle.std.proofs.lemmas.Bool.{both_ways, and_parts, and_from}
use Rattle.sel_region.specs.Region.{one_if, hits, some_has, AllInside, SomeOutside, IsOrder, IsRegion}
use Rattle.sel_region.specs.laws.IntervalLaws.{range_laws}
use Rattle.sel_region.specs.laws.PairLaws.{pair_laws}
use Rattle.sel_region.specs.laws.RegionLemmas.{hits-map, IsRegion-from_hits}
use Rattle.sel_box.specs.declared.any_box.AnyBox.{AnyBox}
use Rattle.sel_text.specs.declared.family.Family.{Family}
use Rattle.sel_text.specs.declared.family.Family.TheVariants.{Four, Six}
use Rattle.sel_box.specs.Point.{PointFields}
use Rattle.sel_box.specs.Boxes.{Ranges, Values, values_of, family_of, ranges_of, box_from, ranges_have, box_has}
use Rattle.sel_text.specs.Family.{same_family}
use Rattle.sel_box.specs.BoxRegion.{values_at_most, ranges_low, ranges_meet, ranges_within, ranges_minus, box_at_most, box_low, box_meet, box_within, box_minus}

-- Five ranges are a region of five values.
pub ranges_laws : IsRegion ranges_have values_at_most ranges_low ranges_meet ranges_within ranges_minus
ranges_laws =
    pair_laws range_laws (pair_laws range_laws (pair_laws range_laws (pair_laws range_laws range_laws)))

-- The point of a family with these values.
abbrev point_from : Family → Values → PointFields
point_from f v = record {
  family = f;
  local = v.0;
  remote = v.1.0;
  protocol = v.1.1.0;
  local_field = v.1.1.1.0;
  remote_field = v.1.1.1.1;
}

-- Being of one family is an equality.

pub same_family-refl : (f : Family) → same_family f f ≡ true
same_family-refl Four = refl
same_family-refl Six = refl

pub equal_from_same : (f g : Family) → same_family f g ≡ true → f ≡ g
equal_from_same Four Four same = refl
equal_from_same Four Six same = cc
equal_from_same Six Four same = cc
equal_from_same Six Six same = refl

same_family-trans : (f g h : Family) → same_family f g ≡ true → same_family g h ≡ true → same_family f h ≡ true
same_family-trans Four Four h below above = above
same_family-trans Six Six h below above = above
same_family-trans Four Six h below above = cc
same_family-trans Six Four h below above = cc

-- Tests of a point: s for the family, p and q for the values of two boxes of one family.

and_both : (s p q : Bool) → (s && (p && q)) ≡ ((s && p) && (s && q))
and_both s p q = grind arith

difference_in_family : (s p q : Bool) → cond s (one_if (p && not q)) 0 ≡ one_if ((s && p) && not (s && q))
difference_in_family s p q = grind arith

-- A point is of one family alone: p and q are the tests of the values of a box of IPv4 and one of IPv6.

families_apart : (f : Family) (p q : Bool) → false ≡ ((same_family Four f && p) && (same_family Six f && q))
families_apart Four true q = refl
families_apart Four false q = refl
families_apart Six p q = refl

families_differ : (f : Family) (p q : Bool) →
    one_if (same_family Four f && p) + 0 ≡ one_if ((same_family Four f && p) && not (same_family Six f && q))
families_differ Four true q = refl
families_differ Four false q = refl
families_differ Six p q = refl

families_differ' : (f : Family) (p q : Bool) →
    one_if (same_family Six f && p) + 0 ≡ one_if ((same_family Six f && p) && not (same_family Four f && q))
families_differ' Six true q = refl
families_differ' Six false q = refl
families_differ' Four p q = refl

-- Two boxes of one family f, with the ranges a and b.

has_from : (f : Family) (r : Ranges) (x : PointFields) →
    box_has (box_from f r) x ≡ (same_family f x.family && ranges_have r (values_of x))
has_from Four r x = refl
has_from Six r x = refl

has_in : (f : Family) (r : Ranges) (v : Values) → (same_family f f && ranges_have r v) ≡ ranges_have r v
has_in Four r v = refl
has_in Six r v = refl

some_has_from : (f : Family) (r : Option Ranges) (x : PointFields) →
    some_has box_has (option_map (box_from f) r) x ≡ (same_family f x.family && some_has ranges_have r (values_of x))
some_has_from f None x = and_comm false (same_family f x.family)
some_has_from f (Some r) x = has_from f r x

same_in : (f : Family) (a b : Ranges) →
    ((x : PointFields) → (same_family f x.family && ranges_have a (values_of x)) ≡ (same_family f x.family && ranges_have b (values_of x))) →
    a ≡ b
same_in f a b h =
    ranges_laws.same a b (λ v. sym (has_in f a v) ∙ h (point_from f v) ∙ has_in f b v)

meet_in : (f : Family) (a b : Ranges) (x : PointFields) →
    some_has box_has (option_map (box_from f) (ranges_meet a b)) x
    ≡ ((same_family f x.family && ranges_have a (values_of x)) && (same_family f x.family && ranges_have b (values_of x)))
meet_in f a b x =
    some_has_from f (ranges_meet a b) x
    ∙ ap (λ p. same_family f x.family && p) (ranges_laws.meet_has a b (values_of x))
    ∙ and_both (same_family f x.family) (ranges_have a (values_of x)) (ranges_have b (values_of x))

within_in : (f : Family) (a b : Ranges) → MatchBool (ranges_within a b)
    (AllInside box_has (box_from f a) (box_from f b))
    (SomeOutside box_has (box_from f a) (box_from f b))
within_in f a b = go (ranges_within a b) (ranges_laws.within_cases a b)
  where
    go : (answer : Bool) → MatchBool answer (AllInside ranges_have a b) (SomeOutside ranges_have a b) →
        MatchBool answer (AllInside box_has (box_from f a) (box_from f b)) (SomeOutside box_has (box_from f a) (box_from f b))
    go true inside = λ x h.
        let parts = and_parts (same_family f x.family) (ranges_have a (values_of x)) (sym (has_from f a x) ∙ h) in
        has_from f b x ∙ and_from _ _ parts.0 (inside (values_of x) parts.1)
    go false outside =
        let x = point_from f outside.0 in
        (x, has_from f a x ∙ has_in f a outside.0 ∙ outside.1, has_from f b x ∙ has_in f b outside.0 ∙ outside.2)

minus_in : (f : Family) (a b : Ranges) (x : PointFields) →
    hits box_has (map (box_from f) (ranges_minus a b)) x
    ≡ one_if ((same_family f x.family && ranges_have a (values_of x)) && not (same_family f x.family && ranges_have b (values_of x)))
minus_in f a b x =
    hits-map ranges_have box_has (box_from f) (values_of x) x (same_family f x.family) (λ r. has_from f r x) (ranges_minus a b)
    ∙ ap (λ n. cond (same_family f x.family) n 0) (ranges_laws.minus_hits a b (values_of x))
    ∙ difference_in_family (same_family f x.family) (ranges_have a (values_of x)) (ranges_have b (values_of x))

alone_in : (f : Family) (a b : Ranges) → IsNone (option_map (box_from f) (ranges_meet a b)) →
    map (box_from f) (ranges_minus a b) ≡ box_from f a ∷ []
alone_in f a b none = ap (map (box_from f)) (ranges_laws.minus_alone a b (go (ranges_meet a b) none))
  where
    go : (r : Option Ranges) → IsNone (option_map (box_from f) r) → IsNone r
    go None none = none
    go (Some r) none = cc

-- The laws, by the families of the boxes.

has_low : (b : AnyBox) → box_has b (box_low b) ≡ true
has_low b = and_from _ _ (same_family-refl (family_of b)) (ranges_laws.has_low (ranges_of b))

low_least : (b : AnyBox) (x : PointFields) → box_has b x ≡ true → box_at_most (box_low b) x ≡ true
low_least b x h =
    let parts = and_parts (same_family (family_of b) x.family) (ranges_have (ranges_of b) (values_of x)) h in
    and_from _ _ parts.0 (ranges_laws.low_least (ranges_of b) (values_of x) parts.1)

order : IsOrder box_at_most
order = record {
  reflexive = λ x. and_from _ _ (same_family-refl x.family) (ranges_laws.order.reflexive (values_of x));
  transitive = λ x y z h k.
      let below = and_parts (same_family x.family y.family) (values_at_most (values_of x) (values_of y)) h in
      let above = and_parts (same_family y.family z.family) (values_at_most (values_of y) (values_of z)) k in
      and_from _ _
      (same_family-trans x.family y.family z.family below.0 above.0)
      (ranges_laws.order.transitive (values_of x) (values_of y) (values_of z) below.1 above.1);
  antisymmetric = λ x y h k.
      let below = and_parts (same_family x.family y.family) (values_at_most (values_of x) (values_of y)) h in
      let above = and_parts (same_family y.family x.family) (values_at_most (values_of y) (values_of x)) k in
      let family = equal_from_same x.family y.family below.0 in
      let values = ranges_laws.order.antisymmetric (values_of x) (values_of y) below.1 above.1 in
      λ i. point_from (family i) (values i);
}

-- A box has its low point, and a box of the other family hasn't.
same : (a b : AnyBox) → ((x : PointFields) → box_has a x ≡ box_has b x) → a ≡ b
same (AnyBox.Four a) (AnyBox.Four b) h = ap AnyBox.Four (same_in Four a b h)
same (AnyBox.Six a) (AnyBox.Six b) h = ap AnyBox.Six (same_in Six a b h)
same (AnyBox.Four a) (AnyBox.Six b) h =
    let x = box_low (AnyBox.Four a) in
    absurd (both_ways (box_has (AnyBox.Four a) x) (h x) (has_low (AnyBox.Four a)))
same (AnyBox.Six a) (AnyBox.Four b) h =
    let x = box_low (AnyBox.Six a) in
    absurd (both_ways (box_has (AnyBox.Six a) x) (h x) (has_low (AnyBox.Six a)))

meet_has : (a b : AnyBox) (x : PointFields) → some_has box_has (box_meet a b) x ≡ (box_has a x && box_has b x)
meet_has (AnyBox.Four a) (AnyBox.Four b) x = meet_in Four a b x
meet_has (AnyBox.Six a) (AnyBox.Six b) x = meet_in Six a b x
meet_has (AnyBox.Four a) (AnyBox.Six b) x =
    families_apart x.family (ranges_have a (values_of x)) (ranges_have b (values_of x))
meet_has (AnyBox.Six a) (AnyBox.Four b) x =
    families_apart x.family (ranges_have b (values_of x)) (ranges_have a (values_of x))
    ∙ and_comm (box_has (AnyBox.Four b) x) (box_has (AnyBox.Six a) x)

within_cases : (a b : AnyBox) → MatchBool (box_within a b) (AllInside box_has a b) (SomeOutside box_has a b)
within_cases (AnyBox.Four a) (AnyBox.Four b) = within_in Four a b
within_cases (AnyBox.Six a) (AnyBox.Six b) = within_in Six a b
within_cases (AnyBox.Four a) (AnyBox.Six b) = (box_low (AnyBox.Four a), has_low (AnyBox.Four a), refl)
within_cases (AnyBox.Six a) (AnyBox.Four b) = (box_low (AnyBox.Six a), has_low (AnyBox.Six a), refl)

minus_hits : (a b : AnyBox) (x : PointFields) →
    hits box_has (box_minus a b) x ≡ one_if (box_has a x && not (box_has b x))
unfolding box_minus
minus_hits (AnyBox.Four a) (AnyBox.Four b) x = minus_in Four a b x
minus_hits (AnyBox.Six a) (AnyBox.Six b) x = minus_in Six a b x
minus_hits (AnyBox.Four a) (AnyBox.Six b) x =
    families_differ x.family (ranges_have a (values_of x)) (ranges_have b (values_of x))
minus_hits (AnyBox.Six a) (AnyBox.Four b) x =
    families_differ' x.family (ranges_have a (values_of x)) (ranges_have b (values_of x))

minus_alone : (a b : AnyBox) → IsNone (box_meet a b) → box_minus a b ≡ a ∷ []
unfolding box_minus
minus_alone (AnyBox.Four a) (AnyBox.Four b) none = alone_in Four a b none
minus_alone (AnyBox.Six a) (AnyBox.Six b) none = alone_in Six a b none
minus_alone (AnyBox.Four a) (AnyBox.Six b) none = refl
minus_alone (AnyBox.Six a) (AnyBox.Four b) none = refl

pub box_laws : IsRegion box_has box_at_most box_low box_meet box_within box_minus
box_laws =
    IsRegion-from_hits box_has box_at_most box_low box_meet box_within box_minus same has_low low_least order meet_has within_cases minus_hits minus_alone
