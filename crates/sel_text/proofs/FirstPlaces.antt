-- Where a text first has a byte, and what stands before it.
use Rattle.std.proofs.Common.{◌≡◌, ℕ, zero, suc, ◌+◌, ◌<◌, ◌≤◌, List, [], ◌∷◌, Bool, true, false, cond, not, min, nat_lt, Some, None, length, take, arith}
use Rattle.std.specs.Prelude.{position, unwrap_or}
use Rattle.std.specs.List.{prefix_len, position_or_len}
use Rattle.std.proofs.lemmas.List.Sums.{prefix_len-le-length}
use Rattle.std.proofs.lemmas.List.{length-take}
use Rattle.std.proofs.lemmas.Bool.Decides.{nat_tests}

-- The prefix of a part is the prefix of the whole, as far as the part goes.
pub prefix_len-take : {X : Type 0} (p : X → Bool) (n : ℕ) (xs : List X) → prefix_len p (take n xs) ≡ min n (prefix_len p xs)
prefix_len-take p zero xs = omega arith
prefix_len-take p (suc n) [] = omega arith
prefix_len-take p (suc n) (x ∷ xs) =
    elim (p x) as (λ b. cond b (1 + prefix_len p (take n xs)) 0 ≡ min (suc n) (cond b (1 + prefix_len p xs) 0)) [
      | true ↦ omega (arith, prefix_len-take p n xs)
      | false ↦ omega arith
    ]

pub position_or_len-le-length : {X : Type 0} (p : X → Bool) (xs : List X) → position_or_len p xs ≤ length xs
position_or_len-le-length p xs = prefix_len-le-length _ xs

-- A place that was found.
place-some : (place end len : ℕ) → cond (nat_lt place len) (Some place) None ≡ Some end → (place ≡ end) × (place < len)
place-some place end len found = grind (arith, nat_tests)

place-none : (place len : ℕ) → cond (nat_lt place len) (Some place) None ≡ None → len ≤ place
place-none place len none = grind (arith, nat_tests)

-- What is found in a part is the first of the whole.
pub position-take-some : {X : Type 0} (p : X → Bool) (n end : ℕ) (xs : List X) → position p (take n xs) ≡ Some end → position_or_len p xs ≡ end
position-take-some p n end xs found =
    let parts = place-some (position_or_len p (take n xs)) end (length (take n xs)) found in
    omega (arith, prefix_len-take (λ x. not (p x)) n xs, length-take n xs, parts)

-- Where nothing is found in a part, nothing stands there in the whole.
pub position-take-none : {X : Type 0} (p : X → Bool) (n : ℕ) (xs : List X) → n ≤ length xs → position p (take n xs) ≡ None → n ≤ position_or_len p xs
position-take-none p n xs within none =
    let past = place-none (position_or_len p (take n xs)) (length (take n xs)) none in
    omega (arith, prefix_len-take (λ x. not (p x)) n xs, length-take n xs, past)

-- The first place, or the length where there is none.
pub unwrap_or-position : {X : Type 0} (p : X → Bool) (xs : List X) → unwrap_or (position p xs) (length xs) ≡ position_or_len p xs
unwrap_or-position p xs = either (position_or_len p xs) (length xs) (position_or_len-le-length p xs)
  where
    either : (place len : ℕ) → place ≤ len → unwrap_or (cond (nat_lt place len) (Some place) None) len ≡ place
    either place len within = grind (arith, nat_tests)
