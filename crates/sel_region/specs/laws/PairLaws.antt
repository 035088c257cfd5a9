-- Pairs of regions are regions of pairs of points.
use Rattle.std.proofs.Common.{◌≡◌, ◌+◌, Bool, true, false, not, ◌&&◌, cond, List, [], ◌∷◌, ◌++◌, Option, Some, None, IsNone, MatchBool, ◌⊎◌, inl, inr}
use Rattle.std.proofs.Common.{sym, refl, ap₂, ◌∙◌, arith}
use Rattle.std.specs.Option.{option_map_or}
use Rattle.std.proofs.Math.Bool.{and_comm}
use Rattle.std.proofs.lemmas.Bool.{and_parts, and_from, and_left, and_right}
use Rattle.sel_region.specs.declared.pair.Pair.{Pair}
use Rattle.sel_region.specs.Region.{one_if, hits, some_has, AllInside, SomeOutside, IsOrder, IsRegion}
use Rattle.sel_region.specs.Pair.{pair_of, pair_has, pair_at_most, pair_low, both, pair_meet, pair_within, pieces_on_first, pieces_on_second}
use Rattle.sel_region.specs.Pair.{pair_minus}
use Rattle.sel_region.specs.laws.RegionLemmas.{hits-append, hits-map, alone-at_none, IsRegion-from_hits}

-- four tests, paired in two ways
and_swap : (a b c d : Bool) → ((a && b) && (c && d)) ≡ ((a && c) && (b && d))
and_swap a b c d = grind arith

-- tests that are equal beside tests that pass are equal
and_cancel_left : (a b c d : Bool) → a ≡ true → b ≡ true → (a && c) ≡ (b && d) → c ≡ d
and_cancel_left a b c d e f h = grind arith

and_cancel_right : (a b c d : Bool) → b ≡ true → d ≡ true → (a && b) ≡ (c && d) → a ≡ c
and_cancel_right a b c d e f h = grind arith

-- A point of one pair, tested for both pairs: a and b are the tests of the first parts, c and d those
-- of the second. Where it isn't in the other pair, either b fails, or b passes and d fails.
difference_split : (a b c d : Bool) →
    cond c (one_if (a && not b)) 0 + cond (a && b) (one_if (c && not d)) 0 ≡ one_if ((a && c) && not (b && d))
difference_split a b c d = grind arith

-- where some parts don't meet, it isn't in the other pair
difference_apart : (a b c d : Bool) → (false ≡ (a && b)) ⊎ (false ≡ (c && d)) →
    one_if (a && c) + 0 ≡ one_if ((a && c) && not (b && d))
difference_apart a b c d e = grind arith

-- the pair of two regions, where both are there, has the pairs of their points
both_has : {R S P Q : Type 0} (has_first : R → P → Bool) (has_second : S → Q → Bool) (r : Option R) (s : Option S) (p : P × Q) →
    some_has (pair_has has_first has_second) (both r s) p ≡ (some_has has_first r p.0 && some_has has_second s p.1)
both_has has_first has_second None s p = refl
both_has has_first has_second (Some r) None p = and_comm false (has_first r p.0)
both_has has_first has_second (Some r) (Some s) p = refl

-- the pieces on the first part that have a point, and those on the second
pieces_hits : {R S P Q : Type 0} (has_first : R → P → Bool) (has_second : S → Q → Bool)
    (minus_first : R → R → List R) (minus_second : S → S → List S) (common : R) (a b : Pair R S) (p : P × Q) →
    hits (pair_has has_first has_second) (pieces_on_first minus_first a b ++ pieces_on_second minus_second common a b) p
    ≡ cond (has_second a.second p.1) (hits has_first (minus_first a.first b.first) p.0) 0
    + cond (has_first common p.0) (hits has_second (minus_second a.second b.second) p.1) 0
pieces_hits has_first has_second minus_first minus_second common a b p =
    hits-append (pair_has has_first has_second) (pieces_on_first minus_first a b) (pieces_on_second minus_second common a b) p
    ∙ ap₂ (λ m n. m + n)
    (hits-map has_first (pair_has has_first has_second) (λ piece. pair_of piece a.second) p.0 p (has_second a.second p.1)
    (λ piece. and_comm (has_first piece p.0) (has_second a.second p.1)) (minus_first a.first b.first))
    (hits-map has_second (pair_has has_first has_second) (pair_of common) p.1 p (has_first common p.0)
    (λ piece. refl) (minus_second a.second b.second))

module _ {R S P Q : Type 0}
    {has_first : R → P → Bool} {has_second : S → Q → Bool}
    {at_most_first : P → P → Bool} {at_most_second : Q → Q → Bool}
    {low_first : R → P} {low_second : S → Q}
    {meet_first : R → R → Option R} {meet_second : S → S → Option S}
    {within_first : R → R → Bool} {within_second : S → S → Bool}
    {minus_first : R → R → List R} {minus_second : S → S → List S}
    (first : IsRegion has_first at_most_first low_first meet_first within_first minus_first)
    (second : IsRegion has_second at_most_second low_second meet_second within_second minus_second)
  where
    abbrev has : Pair R S → P × Q → Bool
    has = pair_has has_first has_second

    abbrev at_most : P × Q → P × Q → Bool
    at_most = pair_at_most at_most_first at_most_second

    abbrev low : Pair R S → P × Q
    low = pair_low low_first low_second

    abbrev meet : Pair R S → Pair R S → Option (Pair R S)
    meet = pair_meet meet_first meet_second

    abbrev within : Pair R S → Pair R S → Bool
    within = pair_within within_first within_second

    abbrev minus : Pair R S → Pair R S → List (Pair R S)
    minus = pair_minus meet_first meet_second minus_first minus_second

    has_low : (r : Pair R S) → has r (low r) ≡ true
    has_low r = and_from _ _ (first.has_low r.first) (second.has_low r.second)

    low_least : (r : Pair R S) (p : P × Q) → has r p ≡ true → at_most (low r) p ≡ true
    low_least r p h =
        let parts = and_parts (has_first r.first p.0) (has_second r.second p.1) h in
        and_from _ _ (first.low_least r.first p.0 parts.0) (second.low_least r.second p.1 parts.1)

    order : IsOrder at_most
    order = record {
      reflexive = λ p. and_from _ _ (first.order.reflexive p.0) (second.order.reflexive p.1);
      transitive = λ p q r h k.
          let below = and_parts (at_most_first p.0 q.0) (at_most_second p.1 q.1) h in
          let above = and_parts (at_most_first q.0 r.0) (at_most_second q.1 r.1) k in
          and_from _ _ (first.order.transitive p.0 q.0 r.0 below.0 above.0) (second.order.transitive p.1 q.1 r.1 below.1 above.1);
      antisymmetric = λ p q h k.
          let below = and_parts (at_most_first p.0 q.0) (at_most_second p.1 q.1) h in
          let above = and_parts (at_most_first q.0 p.0) (at_most_second q.1 p.1) k in
          λ i. (first.order.antisymmetric p.0 q.0 below.0 above.0 i, second.order.antisymmetric p.1 q.1 below.1 above.1 i);
    }

    -- beside one point that both second parts have, the first parts have the same points
    same : (a b : Pair R S) → ((p : P × Q) → has a p ≡ has b p) → a ≡ b
    same a b h =
        let low_in = and_parts (has_first b.first (low a).0) (has_second b.second (low a).1) (sym (h (low a)) ∙ has_low a) in
        let same_first =
        first.same a.first b.first
        (λ p. and_cancel_right (has_first a.first p) _ (has_first b.first p) _ (second.has_low a.second) low_in.1 (h (p, (low a).1))) in
        let same_second =
        second.same a.second b.second
        (λ q. and_cancel_left _ _ (has_second a.second q) (has_second b.second q) (first.has_low a.first) low_in.0 (h ((low a).0, q))) in
        λ i. record { first = same_first i; second = same_second i }

    meet_has : (a b : Pair R S) (p : P × Q) → some_has has (meet a b) p ≡ (has a p && has b p)
    meet_has a b p =
        both_has has_first has_second (meet_first a.first b.first) (meet_second a.second b.second) p
        ∙ ap₂ (λ x y. x && y) (first.meet_has a.first b.first p.0) (second.meet_has a.second b.second p.1)
        ∙ and_swap (has_first a.first p.0) (has_first b.first p.0) (has_second a.second p.1) (has_second b.second p.1)

    -- a point of a part that is outside, beside any point of the other part, is outside
    within_cases : (a b : Pair R S) → MatchBool (within a b) (AllInside has a b) (SomeOutside has a b)
    within_cases a b =
        go (within_first a.first b.first) (within_second a.second b.second) (first.within_cases a.first b.first) (second.within_cases a.second b.second)
      where
        go : (x y : Bool) →
            MatchBool x (AllInside has_first a.first b.first) (SomeOutside has_first a.first b.first) →
            MatchBool y (AllInside has_second a.second b.second) (SomeOutside has_second a.second b.second) →
            MatchBool (x && y) (AllInside has a b) (SomeOutside has a b)
        go true true inside inside' = λ p h.
            let parts = and_parts (has_first a.first p.0) (has_second a.second p.1) h in
            and_from _ _ (inside p.0 parts.0) (inside' p.1 parts.1)
        go true false inside outside = (
          (low_first a.first, outside.0),
          and_from _ _ (first.has_low a.first) outside.1,
          and_right (has_first b.first (low_first a.first)) _ outside.2,
        )
        go false y outside second_part = (
          (outside.0, low_second a.second),
          and_from _ _ outside.1 (second.has_low a.second),
          and_left _ (has_second b.second (low_second a.second)) outside.2,
        )

    minus_hits : (a b : Pair R S) (p : P × Q) → hits has (minus a b) p ≡ one_if (has a p && not (has b p))
    unfolding pair_minus
    minus_hits a b p =
        go (meet_first a.first b.first) (meet_second a.second b.second) (first.meet_has a.first b.first p.0) (second.meet_has a.second b.second p.1)
      where
        go : (r : Option R) (s : Option S) →
            some_has has_first r p.0 ≡ (has_first a.first p.0 && has_first b.first p.0) →
            some_has has_second s p.1 ≡ (has_second a.second p.1 && has_second b.second p.1) →
            hits has
            (option_map_or (λ (common : Pair R S). pieces_on_first minus_first a b ++ pieces_on_second minus_second common.first a b) (both r s) (a ∷ []))
            p ≡ one_if (has a p && not (has b p))
        go None s e f = difference_apart (has_first a.first p.0) (has_first b.first p.0) (has_second a.second p.1) (has_second b.second p.1) (inl e)
        go (Some r) None e f = difference_apart (has_first a.first p.0) (has_first b.first p.0) (has_second a.second p.1) (has_second b.second p.1) (inr f)
        go (Some r) (Some s) e f =
            rw (
              pieces_hits has_first has_second minus_first minus_second r a b p,
              first.minus_hits a.first b.first p.0,
              second.minus_hits a.second b.second p.1,
              e,
            )
            (difference_split (has_first a.first p.0) (has_first b.first p.0) (has_second a.second p.1) (has_second b.second p.1))

    minus_alone : (a b : Pair R S) → IsNone (meet a b) → minus a b ≡ a ∷ []
    unfolding pair_minus
    minus_alone a b none =
        alone-at_none (λ common. pieces_on_first minus_first a b ++ pieces_on_second minus_second common.first a b) (meet a b) (a ∷ []) none

    pub pair_laws : IsRegion
        (pair_has has_first has_second)
        (pair_at_most at_most_first at_most_second)
        (pair_low low_first low_second)
        (pair_meet meet_first meet_second)
        (pair_within within_first within_second)
        (pair_minus meet_first meet_second minus_first minus_second)
    pair_laws =
        IsRegion-from_hits has at_most low meet within minus same has_low low_least order meet_has within_cases minus_hits minus_alone
