-- The values and texts behind references.
use Rattle.std.specs.Prelude.{ℕ, List, Option, option_map, Result, Ok, Err}
use Rattle.std.specs.Borrow.{Bor}
use Rattle.toml.specs.Data.{Data}
use Rattle.toml.specs.View.{view}
use Rattle.toml.specs.declared.value.Value.{Value}
use Rattle.spd_file.specs.declared.why.Why.{Why}

-- The value behind a reference, if there is one.
abbrev pub data_now : Option (Bor Value) → Option Data
data_now value = option_map (λ v. view v.now) value

-- The text behind a reference, or why there is none.
abbrev pub text_now : Result (Bor (List ℕ)) Why → Result (List ℕ) Why
text_now (Ok text) = Ok text.now
text_now (Err why) = Err why
