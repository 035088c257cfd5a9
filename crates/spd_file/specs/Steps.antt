-- Readings one after another: the first that is refused refuses them all.
use Rattle.std.specs.Prelude.{List, [], ◌∷◌, Result, Ok, Err}

-- Goes on with what was read.
infixl 10 ◌>>=◌
abbrev pub ◌>>=◌ : {A B E : Type 0} → Result A E → (A → Result B E) → Result B E
Ok value >>= next = next value
Err fault >>= next = Err fault

-- Goes on where nothing was refused.
infixl 10 ◌>>◌
abbrev pub ◌>>◌ : {A B E : Type 0} → Result A E → Result B E → Result B E
Ok value >> next = next
Err fault >> next = Err fault

-- What each of some values is read as, in order.
abbrev pub all_read : {V A E : Type 0} → (V → Result A E) → List V → Result (List A) E
all_read read [] = Ok []
all_read read (value ∷ values) = do
  first ← read value
  rest ← all_read read values
  Ok (first ∷ rest)
