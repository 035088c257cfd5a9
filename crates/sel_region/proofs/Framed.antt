-- What is left of a pair, put piece by piece into a frame.
use Rattle.std.proofs.Common.{◌≡◌, ◌++◌, List, map, Option, Some, None, IsSome, append_assoc, ap}
use Rattle.std.proofs.lemmas.List.{map-append}
use Rattle.std.proofs.lemmas.Simd.{map-map}
use Rattle.sel_region.specs.declared.pair.Pair.{Pair}
use Rattle.sel_region.specs.Pair.{pair_of, both, pair_minus, pair_meet}

-- of two regions that are both there the one is known
both_with : {R S : Type 0} (first : Option R) (second : Option S) (common : R) →
    first ≡ Some common → IsSome (both first second) →
    (s : S) × (both first second ≡ Some (pair_of common s))
both_with None second common is some = cc
both_with (Some r) None common is some = cc
both_with (Some r) (Some s) common is some = (s, ap (λ o. both o (Some s)) is)

-- where the pieces of the first part come into their frame, and after them those of the second, all
-- pieces of the pair have come into the frame round it
pub map-pair_minus : {R S W : Type 0} (around : Pair R S → W)
    (meet_first : R → R → Option R) (meet_second : S → S → Option S)
    (minus_first : R → R → List R) (minus_second : S → S → List S)
    (a b : Pair R S) (common : R) (before between after : List W) →
    meet_first a.first b.first ≡ Some common →
    IsSome (pair_meet meet_first meet_second a b) →
    between ≡ before ++ map (λ piece. around (pair_of piece a.second)) (minus_first a.first b.first) →
    after ≡ between ++ map (λ piece. around (pair_of common piece)) (minus_second a.second b.second) →
    after ≡ before ++ map around (pair_minus meet_first meet_second minus_first minus_second a b)
unfolding pair_minus
map-pair_minus around meet_first meet_second minus_first minus_second a b common before between after is some e f =
    let there = (both_with (meet_first a.first b.first) (meet_second a.second b.second) common is some).1 in
    rw (f, e, there) (simp (map-append, map-map, append_assoc))
