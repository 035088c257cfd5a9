-- Counts of what happened, in 64 bits, and lists of the calls that are to fail.
use Rattle.std.specs.Prelude.{ℕ, ◌+◌, ◌-◌, ◌^◌, ◌≤◌, min, Bool, nat_eq, nat_lt, if◌then◌else◌, List}
use Rattle.std.specs.List.{list_any}

-- a count went up, or stands at its last value
abbrev pub Rose : ℕ → ℕ → Type 0
Rose before now = min (before + 1) (2 ^ 64 - 1) ≤ now

-- no name's count went down
abbrev pub NoneFell : (List ℕ → ℕ) → (List ℕ → ℕ) → Type 0
NoneFell before now = (name : List ℕ) → before name ≤ now name

-- a count after one more, which stays at its last value
abbrev pub one_more : ℕ → ℕ
one_more count = (if nat_lt count (2 ^ 64 - 1) then count + 1 else count)

-- whether a number is in a list
abbrev pub is_listed : ℕ → List ℕ → Bool
is_listed number numbers = list_any (λ listed. nat_eq listed number) numbers
