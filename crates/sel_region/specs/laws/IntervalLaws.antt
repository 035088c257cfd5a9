-- Ranges of numbers are regions of numbers.
use Rattle.std.proofs.Common.{◌≡◌, ℕ, Bool, true, false, not, ◌&&◌, nat_le, [], ◌∷◌, ◌++◌, IsNone, MatchBool, refl, arith}
use Rattle.std.proofs.lemmas.Bool.Decides.{nat_tests}
use Rattle.sel_region.specs.Region.{one_if, hits, some_has, AllInside, SomeOutside, IsOrder, IsRegion}
use Rattle.sel_region.specs.Interval.{Range, high_of, range_has, range_low, range_meet, range_within, piece_below, piece_above, range_minus}
use Rattle.sel_region.specs.laws.RegionLemmas.{alone-at_none, IsRegion-from_hits}

order : IsOrder nat_le
order = record {
  reflexive = λ p. grind (arith, nat_tests);
  transitive = λ p q r below above. grind (arith, nat_tests);
  antisymmetric = λ p q below above. grind (arith, nat_tests);
}

has_low : (r : Range) → range_has r r.low ≡ true
has_low r = grind (arith, nat_tests)

has_high : (r : Range) → range_has r (high_of r) ≡ true
has_high r = grind (arith, nat_tests)

low_least : (r : Range) (p : ℕ) → range_has r p ≡ true → nat_le r.low p ≡ true
low_least r p h = grind (arith, nat_tests)

-- each of two ranges with the same numbers has the ends of the other
same : (a b : Range) → ((p : ℕ) → range_has a p ≡ range_has b p) → a ≡ b
same a b h =
    let same_low : a.low ≡ b.low = grind (arith, nat_tests, h a.low, h b.low) in
    let same_more : a.more ≡ b.more = grind (arith, nat_tests, h (high_of a), h (high_of b), same_low) in
    λ i. record { low = same_low i; more = same_more i }

meet_has : (a b : Range) (p : ℕ) →
    some_has range_has (range_meet a b) p ≡ (range_has a p && range_has b p)
meet_has a b p = grind (arith, nat_tests)

-- an end of a that isn't in b is outside it
within_cases : (a b : Range) →
    MatchBool (range_within a b) (AllInside range_has a b) (SomeOutside range_has a b)
within_cases a b = go (nat_le b.low a.low) (nat_le (high_of a) (high_of b)) refl refl
  where
    go : (low_in high_in : Bool) → nat_le b.low a.low ≡ low_in → nat_le (high_of a) (high_of b) ≡ high_in →
        MatchBool (low_in && high_in) (AllInside range_has a b) (SomeOutside range_has a b)
    go true true e f = λ p h. grind (arith, nat_tests)
    go true false e f = (high_of a, has_high a, grind (arith, nat_tests))
    go false high_in e f = (a.low, has_low a, grind (arith, nat_tests))

minus_hits : (a b : Range) (p : ℕ) →
    hits range_has (range_minus a b) p ≡ one_if (range_has a p && not (range_has b p))
unfolding range_minus
minus_hits a b p = grind (arith, nat_tests)

minus_alone : (a b : Range) → IsNone (range_meet a b) → range_minus a b ≡ a ∷ []
unfolding range_minus
minus_alone a b none =
    alone-at_none (λ common. piece_below a b ++ piece_above a b) (range_meet a b) (a ∷ []) none

pub range_laws : IsRegion range_has nat_le range_low range_meet range_within range_minus
range_laws =
    IsRegion-from_hits range_has nat_le range_low range_meet range_within range_minus same has_low low_least order meet_has within_cases minus_hits minus_alone
