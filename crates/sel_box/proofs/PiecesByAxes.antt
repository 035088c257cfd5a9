-- What is left of a box that meets another, axis by axis.
use Rattle.std.proofs.Common.{◌≡◌, Bool, true, false, nat_le, List, [], ◌∷◌, ◌++◌, map, Option, Some, None, max, min, if◌then◌else◌, refl, sym, ap, ap₂, ◌∙◌}
use Rattle.std.specs.Option.{IsSome, option_map, option_map_or}
use Rattle.std.proofs.lemmas.List.{map-append, map-id}
use Rattle.std.proofs.lemmas.Simd.{map-map}
use Rattle.sel_region.specs.declared.pair.Pair.{Pair}
use Rattle.sel_region.specs.Interval.{Range, high_of, range_meet, range_minus}
use Rattle.sel_region.specs.Pair.{both, pair_meet, pair_minus, pair_of}
use Rattle.sel_box.specs.declared.any_box.AnyBox.{AnyBox}
use Rattle.sel_text.specs.declared.family.Family.{Family}
use Rattle.sel_text.specs.declared.family.Family.TheVariants.{Four, Six}
use Rattle.sel_box.specs.Boxes.{Ranges, box_from}
use Rattle.sel_box.specs.BoxRegion.{box_meet, box_minus, ranges_meet, ranges_minus}
use Rattle.sel_box.specs.ByAxes.{below_and_above, in_common, pieces_by_axes, ranges_by_axes}

both-parts : {R S : Type 0} (x : Option R) (y : Option S) (p : Pair R S) → both x y ≡ Some p → (x ≡ Some p.first) × (y ≡ Some p.second)
both-parts (Some r) (Some s) p e =
    let same : pair_of r s ≡ p = cc in
    (ap (λ q. Some q.first) same, ap (λ q. Some q.second) same)
both-parts (Some r) None p e = absurd (let none : ⊥ = cc in none)
both-parts None y p e = absurd (let none : ⊥ = cc in none)

range_meets : (a b common : Range) → range_meet a b ≡ Some common → (common ≡ in_common a b) × (range_minus a b ≡ below_and_above a b)
unfolding range_minus
range_meets a b common e = (go (nat_le (max a.low b.low) (min (high_of a) (high_of b))) e, ap (λ o. option_map_or (λ c. below_and_above a b) o (a ∷ [])) e)
  where
    go : (meets : Bool) → (if meets then Some (in_common a b) else None) ≡ Some common → common ≡ in_common a b
    go true e = let same : in_common a b ≡ common = cc in sym same
    go false e = absurd (let none : ⊥ = cc in none)

-- One axis, and the axes after it, where each piece is made a box.
axis_then : {S T : Type 0} (made : Pair Range S → T) (meet : S → S → Option S) (minus : S → S → List S) (a b common : Pair Range S) →
    pair_meet range_meet meet a b ≡ Some common →
    (meet a.second b.second ≡ Some common.second)
    × (map made (pair_minus range_meet meet range_minus minus a b)
    ≡ map (λ piece. made (pair_of piece a.second)) (below_and_above a.first b.first)
    ++ map (λ piece. made (pair_of (in_common a.first b.first) piece)) (minus a.second b.second))
unfolding pair_minus
axis_then {S} made meet minus a b common e =
    let parts = both-parts (range_meet a.first b.first) (meet a.second b.second) common e in
    let range = range_meets a.first b.first common.first parts.0 in
    let after : Range → List (Pair Range S) = λ c. map (λ piece. pair_of c piece) (minus a.second b.second) in
    let before = map (λ piece. pair_of piece a.second) (range_minus a.first b.first) in (
      parts.1,
      ap (λ o. map made (option_map_or (λ (c : Pair Range S). before ++ after c.first) o (a ∷ []))) e
          ∙ map-append made before (after common.first)
          ∙ ap₂ (λ xs ys. xs ++ ys)
          (map-map made (λ piece. pair_of piece a.second) (range_minus a.first b.first) ∙ ap (map (λ piece. made (pair_of piece a.second))) range.1)
          (map-map made (λ piece. pair_of common.first piece) (minus a.second b.second)
          ∙ ap (λ c. map (λ piece. made (pair_of c piece)) (minus a.second b.second)) range.0),
    )

then_after : {T : Type 0} (before : List T) (xs ys : List T) → xs ≡ ys → before ++ xs ≡ before ++ ys
then_after before xs ys e = ap (λ rest. before ++ rest) e

ranges_minus-by_axes : (a b common : Ranges) → ranges_meet a b ≡ Some common → ranges_minus a b ≡ ranges_by_axes a b
unfolding ranges_by_axes
ranges_minus-by_axes a b common e =
    let local = axis_then (λ (r : Ranges). r) _ _ a b common e in
    let on_local = pair_of (in_common a.first b.first) in
    let remote = axis_then on_local _ _ a.second b.second common.second local.0 in
    let on_remote = pair_of (in_common a.second.first b.second.first) in
    let protocol = axis_then (λ r. on_local (on_remote r)) _ _ a.second.second b.second.second common.second.second remote.0 in
    let on_protocol = pair_of (in_common a.second.second.first b.second.second.first) in
    let fields =
    axis_then (λ r. on_local (on_remote (on_protocol r))) _ _ a.second.second.second b.second.second.second
    common.second.second.second protocol.0 in
    let last = range_meets a.second.second.second.second b.second.second.second.second common.second.second.second.second fields.0 in
    sym (map-id (ranges_minus a b))
    ∙ local.1
    ∙ then_after _ _ _ (remote.1
    ∙ then_after _ _ _ (protocol.1
    ∙ then_after _ _ _ (fields.1
    ∙ then_after _ _ _ (ap (map _) last.1))))

in_family : (f : Family) (a b : Ranges) (met : Option Ranges) → ranges_meet a b ≡ met → IsSome (option_map (box_from f) met) →
    map (box_from f) (ranges_minus a b) ≡ map (box_from f) (ranges_by_axes a b)
in_family f a b (Some common) e some = ap (map (box_from f)) (ranges_minus-by_axes a b common e)
in_family f a b None e some = absurd (let none : ⊥ = cc in none)

pub box_minus-by_axes : (a b : AnyBox) → IsSome (box_meet a b) → box_minus a b ≡ pieces_by_axes a b
unfolding box_minus
box_minus-by_axes (AnyBox.Four a) (AnyBox.Four b) meet = in_family Four a b (ranges_meet a b) refl meet
box_minus-by_axes (AnyBox.Six a) (AnyBox.Six b) meet = in_family Six a b (ranges_meet a b) refl meet
box_minus-by_axes (AnyBox.Four a) (AnyBox.Six b) meet = absurd (let none : ⊥ = cc in none)
box_minus-by_axes (AnyBox.Six a) (AnyBox.Four b) meet = absurd (let none : ⊥ = cc in none)
