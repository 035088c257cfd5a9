-- Products: a pair of regions has the pairs of their points.
use Rattle.std.specs.Prelude.{Bool, ◌&&◌, List, [], ◌∷◌, ◌++◌, map, Option, Some, None}
use Rattle.std.specs.Option.{option_map_or}
use Rattle.sel_region.specs.declared.pair.Pair.{Pair}

abbrev pub pair_of : {R S : Type 0} → R → S → Pair R S
pair_of first second = record { first = first; second = second }

-- a pair has a pair of points where each part has its own
abbrev pub pair_has : {R S P Q : Type 0} → (R → P → Bool) → (S → Q → Bool) → Pair R S → P × Q → Bool
pair_has has_first has_second r p = has_first r.first p.0 && has_second r.second p.1

-- one pair of points is at most another where both points are
abbrev pub pair_at_most : {P Q : Type 0} → (P → P → Bool) → (Q → Q → Bool) → P × Q → P × Q → Bool
pair_at_most at_most_first at_most_second p q = at_most_first p.0 q.0 && at_most_second p.1 q.1

-- the low points of both parts
abbrev pub pair_low : {R S P Q : Type 0} → (R → P) → (S → Q) → Pair R S → P × Q
pair_low low_first low_second r = (low_first r.first, low_second r.second)

-- the pair of two regions, where both are there
abbrev pub both : {R S : Type 0} → Option R → Option S → Option (Pair R S)
both (Some first) (Some second) = Some (pair_of first second)
both _ _ = None

-- pairs meet where both parts do
abbrev pub pair_meet : {R S : Type 0} → (R → R → Option R) → (S → S → Option S) →
    Pair R S → Pair R S → Option (Pair R S)
pair_meet meet_first meet_second a b =
    both (meet_first a.first b.first) (meet_second a.second b.second)

-- a pair is within another where both parts are
abbrev pub pair_within : {R S : Type 0} → (R → R → Bool) → (S → S → Bool) → Pair R S → Pair R S → Bool
pair_within within_first within_second a b =
    within_first a.first b.first && within_second a.second b.second

-- the pair of the hulls of both parts
abbrev pub pair_hull : {R S : Type 0} → (R → R → R) → (S → S → S) → Pair R S → Pair R S → Pair R S
pair_hull hull_first hull_second a b =
    pair_of (hull_first a.first b.first) (hull_second a.second b.second)

-- the pieces on the first part: each that is left of it, with the whole second part
abbrev pub pieces_on_first : {R S : Type 0} → (R → R → List R) → Pair R S → Pair R S → List (Pair R S)
pieces_on_first minus_first a b = map (λ piece. pair_of piece a.second) (minus_first a.first b.first)

-- the pieces on the second part: the meet of the first parts, with each that is left of the second
abbrev pub pieces_on_second : {R S : Type 0} → (S → S → List S) → R →
    Pair R S → Pair R S → List (Pair R S)
pieces_on_second minus_second common a b =
    map (λ piece. pair_of common piece) (minus_second a.second b.second)

-- what is left of a without b: the pieces on the first part, then those on the second; a alone where
-- they don't meet
unfoldable pub pair_minus : {R S : Type 0} → (R → R → Option R) → (S → S → Option S) →
    (R → R → List R) → (S → S → List S) → Pair R S → Pair R S → List (Pair R S)
pair_minus meet_first meet_second minus_first minus_second a b =
    option_map_or
    (λ common. pieces_on_first minus_first a b ++ pieces_on_second minus_second common.first a b)
    (pair_meet meet_first meet_second a b)
    (a ∷ [])
