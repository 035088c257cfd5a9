-- What a sink gained, where it tells its text.
use Rattle.std.specs.Prelude.{◌≡◌, ℕ, List, ◌++◌, take, Option, option_map}

-- the text now is the text before with these bytes behind it
abbrev pub Gains : Option (List ℕ) → Option (List ℕ) → List ℕ → Type 0
Gains before now bytes = now ≡ option_map (λ text. text ++ bytes) before

-- some first bytes of these came behind the text
pub record GainsPrefix (before now : Option (List ℕ)) (bytes : List ℕ) : Type 0 where
  pub count : ℕ
  pub gained : Gains before now (take count bytes)
