-- What a text is as TOML.
use Rattle.std.specs.Prelude.{ℕ, ◌==◌, List, length, Option, Result, Err, if◌then◌else◌}
use Rattle.std.specs.Option.{ok_or}
use Rattle.std.specs.Str.Lossy.{utf8_valid_len}
use Rattle.spd_file.specs.declared.fault.PolicyFault.{PolicyFault}

-- What a parser finds in a text, which is in UTF-8.
abbrev pub parsed : {A : Type 0} → (List ℕ → Option A) → List ℕ → Result A PolicyFault
parsed parse text =
    if utf8_valid_len text == length text then ok_or (parse text) PolicyFault.Syntax else Err PolicyFault.Syntax
