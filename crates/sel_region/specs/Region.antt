-- What every kind of region promises, in words of the points that a region has.
use Rattle.std.specs.Prelude.{◌≡◌, ℕ, ◌+◌, Bool, true, false, not, ◌&&◌, cond, List, [], ◌∷◌, Option, Some, None, IsNone, ◌↔◌}
use Rattle.std.specs.Bool.{MatchBool}
use Rattle.std.specs.List.{AllPairs, list_any}

-- 1 where the test passes, else 0
abbrev pub one_if : Bool → ℕ
one_if test = cond test 1 0

-- how many of the regions have the point
abbrev pub hits : {R P : Type 0} → (R → P → Bool) → List R → P → ℕ
hits has [] p = 0
hits has (r ∷ rs) p = one_if (has r p) + hits has rs p

-- whether there is a region and it has the point
abbrev pub some_has : {R P : Type 0} → (R → P → Bool) → Option R → P → Bool
some_has has None p = false
some_has has (Some r) p = has r p

-- no point is in both
abbrev pub AreApart : {R P : Type 0} → (R → P → Bool) → R → R → Type 0
AreApart {R} {P} has a b = (p : P) → (has a p && has b p) ≡ false

-- each point of a is in b
abbrev pub AllInside : {R P : Type 0} → (R → P → Bool) → R → R → Type 0
AllInside {R} {P} has a b = (p : P) → has a p ≡ true → has b p ≡ true

-- some point of a is not in b
abbrev pub SomeOutside : {R P : Type 0} → (R → P → Bool) → R → R → Type 0
SomeOutside {R} {P} has a b = (p : P) × (has a p ≡ true) × (has b p ≡ false)

-- points are ordered in part: one is at most another where it is so on each axis
pub record IsOrder {P : Type 0} (at_most : P → P → Bool) : Type 0 where
  pub reflexive : (p : P) → at_most p p ≡ true
  pub transitive : (p q r : P) → at_most p q ≡ true → at_most q r ≡ true → at_most p r ≡ true
  pub antisymmetric : (p q : P) → at_most p q ≡ true → at_most q p ≡ true → p ≡ q

-- the laws of a kind of region R with points P
pub record IsRegion {R P : Type 0} (has : R → P → Bool) (at_most : P → P → Bool) (low : R → P)
    (meet : R → R → Option R) (within : R → R → Bool) (minus : R → R → List R) : Type 0 where
  -- a region is the set of its points: two that have the same points are the same
  pub same : (a b : R) → ((p : P) → has a p ≡ has b p) → a ≡ b
  -- that set isn't empty: the low point is in it, and is at most each other that is
  pub has_low : (r : R) → has r (low r) ≡ true
  pub low_least : (r : R) (p : P) → has r p ≡ true → at_most (low r) p ≡ true
  pub order : IsOrder at_most
  -- the meet has the points that both have, and there is none exactly where they have none in common
  pub meet_has : (a b : R) (p : P) → some_has has (meet a b) p ≡ (has a p && has b p)
  pub meet_none : (a b : R) → IsNone (meet a b) ↔ AreApart has a b
  -- one is within another where each of its points is in it, and where not, some point isn't
  pub within_cases : (a b : R) → MatchBool (within a b) (AllInside has a b) (SomeOutside has a b)
  -- no two pieces have a point in common, and together they have the points of a that b hasn't
  pub minus_apart : (a b : R) → AllPairs (AreApart has) (minus a b)
  pub minus_has : (a b : R) (p : P) → list_any (λ r. has r p) (minus a b) ≡ (has a p && not (has b p))
  -- both at once, by counting: a point of the difference is in one piece, and any other in none
  pub minus_hits : (a b : R) (p : P) → hits has (minus a b) p ≡ one_if (has a p && not (has b p))
  -- a region that doesn't meet the other is its own only piece
  pub minus_alone : (a b : R) → IsNone (meet a b) → minus a b ≡ a ∷ []

-- the laws of the hull of two regions: both are within it, and it is within each region that both are within
pub record IsHull {R : Type 0} (within : R → R → Bool) (hull : R → R → R) : Type 0 where
  pub first : (a b : R) → within a (hull a b) ≡ true
  pub second : (a b : R) → within b (hull a b) ≡ true
  pub least : (a b c : R) → within a c ≡ true → within b c ≡ true → within (hull a b) c ≡ true
