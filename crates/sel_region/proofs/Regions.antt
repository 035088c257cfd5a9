-- What follows from the laws of a kind of region.
use Rattle.std.proofs.Common.{◌≡◌, ◌+◌, Bool, true, false, not, ◌&&◌, List, [], ◌∷◌, Option, Some, None, ◌↔◌, MatchBool, sym, refl, ap, ◌∙◌, arith}
use Rattle.std.proofs.Math.Bool.{and_comm}
use Rattle.std.proofs.lemmas.Bool.{both_ways, and_parts}
use Rattle.sel_region.specs.Region.{one_if, hits, some_has, AllInside, SomeOutside, IsRegion}

and_absorb : (x y : Bool) → (x ≡ true → y ≡ true) → (x && y) ≡ x
and_absorb true y h = h refl
and_absorb false y h = refl

-- no point is left where each is in both, and only there
none_left : (x y : Bool) → (x ≡ true → y ≡ true) ↔ (one_if (x && not y) ≡ 0)
none_left true true = (λ h. refl, λ e h. refl)
none_left true false = (λ h. cc (h refl), λ e h. absurd (omega (arith, e)))
none_left false y = (λ h. refl, λ e h. cc)

module _ {R P : Type 0}
    {has : R → P → Bool} {at_most : P → P → Bool} {low : R → P}
    {meet : R → R → Option R} {within : R → R → Bool} {minus : R → R → List R}
    (laws : IsRegion has at_most low meet within minus)
  where
    -- a meet is known by its points
    meet_by_points : (meet : Option R) (r : R) → ((p : P) → some_has has meet p ≡ has r p) → meet ≡ Some r
    meet_by_points None r h = absurd (both_ways (has r (low r)) (sym (h (low r))) (laws.has_low r))
    meet_by_points (Some m) r h = ap Some (laws.same m r h)

    pub within-by_points : (a b : R) → (within a b ≡ true) ↔ AllInside has a b
    within-by_points a b = go (within a b) (laws.within_cases a b)
      where
        go : (answer : Bool) → MatchBool answer (AllInside has a b) (SomeOutside has a b) →
            (answer ≡ true) ↔ AllInside has a b
        go true inside = (λ e. inside, λ inside'. refl)
        go false outside = (λ e. cc, λ inside. absurd (both_ways (has b outside.0) outside.2 (inside outside.0 outside.1)))

    pub within-self : (r : R) → within r r ≡ true
    within-self r = (within-by_points r r).1 (λ p h. h)

    pub meet_comm : (a b : R) → meet a b ≡ meet b a
    meet_comm a b =
        go (meet a b) (meet b a) (λ p. laws.meet_has a b p ∙ and_comm (has a p) (has b p) ∙ sym (laws.meet_has b a p))
      where
        go : (x y : Option R) → ((p : P) → some_has has x p ≡ some_has has y p) → x ≡ y
        go None None h = refl
        go (Some m) None h = sym (meet_by_points None m (λ p. sym (h p)))
        go x (Some m) h = meet_by_points x m h

    -- a meet lies in both regions
    pub meet-within : (a b m : R) → meet a b ≡ Some m → (within m a ≡ true) × (within m b ≡ true)
    meet-within a b m met =
        ((within-by_points m a).1 (λ p h. (parts p h).0), (within-by_points m b).1 (λ p h. (parts p h).1))
      where
        parts : (p : P) → has m p ≡ true → (has a p ≡ true) × (has b p ≡ true)
        parts p h = and_parts (has a p) (has b p) (sym (laws.meet_has a b p) ∙ ap (λ o. some_has has o p) met ∙ h)

    -- a region is within another exactly where it is their meet
    pub within-by_meet : (a b : R) → (within a b ≡ true) ↔ (meet a b ≡ Some a)
    within-by_meet a b = (
      λ h. meet_by_points (meet a b) a (λ p. laws.meet_has a b p ∙ and_absorb (has a p) (has b p) ((within-by_points a b).0 h p)),
      λ met. (meet-within a b a met).1,
    )

    pub meet-self : (r : R) → meet r r ≡ Some r
    meet-self r = (within-by_meet r r).0 (within-self r)

    -- a list of regions without a point is empty
    empty-from_hits : (rs : List R) → ((p : P) → hits has rs p ≡ 0) → rs ≡ []
    empty-from_hits [] none = refl
    empty-from_hits (r ∷ rs) none = absurd (go (has r (low r)) (laws.has_low r) (none (low r)))
      where
        go : (here : Bool) → here ≡ true → one_if here + hits has rs (low r) ≡ 0 → ⊥
        go true e f = omega (arith, f)
        go false e f = cc

    -- and exactly where nothing is left of it without the other
    pub within-by_minus : (a b : R) → (within a b ≡ true) ↔ (minus a b ≡ [])
    within-by_minus a b = (
      λ h. empty-from_hits (minus a b) (λ p. laws.minus_hits a b p ∙ (none_left (has a p) (has b p)).0 ((within-by_points a b).0 h p)),
      λ empty. (within-by_points a b).1 (λ p. (none_left (has a p) (has b p)).1 (sym (laws.minus_hits a b p) ∙ ap (λ rs. hits has rs p) empty)),
    )

    pub minus-self : (r : R) → minus r r ≡ []
    minus-self r = (within-by_minus r r).0 (within-self r)
