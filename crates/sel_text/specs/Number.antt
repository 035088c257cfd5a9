-- Decimal numbers, as texts write them.
use Rattle.std.specs.Prelude.{ℕ, Bool, true, false, ◌&&◌, not, ◌==◌, List, [], ◌∷◌, Option, Some, None, Result, if◌then◌else◌, nat_le}
use Rattle.std.specs.List.{list_all}
use Rattle.std.specs.Char.{is_ascii_digit}
use Rattle.std.specs.Str.Parse.{digits_value}
use Rattle.sel_text.specs.declared.fault.TextFault.{TextFault}
use Rattle.sel_text.specs.Fault.{bounded}

-- whether a digit may stand before more digits: all but `0`
abbrev pub leads : ℕ → List ℕ → Bool
leads digit [] = true
leads digit (next ∷ more) = not (digit == 48)

-- one or more decimal digits, with no leading zero but in `0` itself
abbrev pub is_number : List ℕ → Bool
is_number [] = false
is_number (digit ∷ more) = leads digit more && list_all is_ascii_digit (digit ∷ more)

-- the number of any size that a text writes, if it writes one
abbrev pub number_in : List ℕ → Option ℕ
number_in text = if is_number text then Some (digits_value 10 text) else None

-- what a text means as a number of at most `most`
abbrev pub number_meaning : ℕ → List ℕ → Result ℕ TextFault
number_meaning most text = bounded (λ n. nat_le n most) (λ n. n) (number_in text)
