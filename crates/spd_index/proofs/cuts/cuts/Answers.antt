use Rattle.std.proofs.Common.{ℕ}
use Rattle.std.proofs.lemmas.List.Sorted.{IsNonDecreasingBy-from_sort}
use Rattle.spd_index.proofs.cuts.cuts.Goals as goal

pub returns-clause-rising : goal.returns-clause-rising
returns-clause-rising g c = IsNonDecreasingBy-from_sort (λ (cut : ℕ). cut) _ c.sort_unstable.ensures.sorted
