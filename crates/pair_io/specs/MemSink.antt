-- A sink in memory and what was done with it.
use Rattle.std.specs.Prelude.{ℕ, List}

-- The numbers of the calls of `put` and `flush` that fail count from 1; `room` is how many bytes may be written in all.
pub record HeldText : Type 0 where
  pub written : List ℕ
  pub room : ℕ
  pub failing : List ℕ
  pub calls : ℕ
  pub faults : ℕ
