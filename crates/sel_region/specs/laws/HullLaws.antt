-- Ranges have hulls, and so have pairs of what has them.
use Rattle.std.proofs.Common.{Bool, arith}
use Rattle.std.proofs.lemmas.Bool.{and_parts, and_from}
use Rattle.std.proofs.lemmas.Bool.Decides.{nat_tests}
use Rattle.sel_region.specs.Region.{IsHull}
use Rattle.sel_region.specs.Interval.{range_within, range_hull}
use Rattle.sel_region.specs.Pair.{pair_within, pair_hull}

pub range_hull_laws : IsHull range_within range_hull
range_hull_laws = record {
  first = λ a b. grind (arith, nat_tests);
  second = λ a b. grind (arith, nat_tests);
  least = λ a b c h k. grind (arith, nat_tests);
}

pub pair_hull_laws : {R S : Type 0}
    {within_first : R → R → Bool} {within_second : S → S → Bool}
    {hull_first : R → R → R} {hull_second : S → S → S} →
    IsHull within_first hull_first → IsHull within_second hull_second →
    IsHull (pair_within within_first within_second) (pair_hull hull_first hull_second)
pair_hull_laws {within_first} {within_second} first second = record {
  first = λ a b. and_from _ _ (first.first a.first b.first) (second.first a.second b.second);
  second = λ a b. and_from _ _ (first.second a.first b.first) (second.second a.second b.second);
  least = λ a b c h k.
      let in_first = and_parts (within_first a.first c.first) (within_second a.second c.second) h in
      let in_second = and_parts (within_first b.first c.first) (within_second b.second c.second) k in
      and_from _ _
      (first.least a.first b.first c.first in_first.0 in_second.0)
      (second.least a.second b.second c.second in_first.1 in_second.1);
}
