-- IPv4 addresses, as texts write them.
use Rattle.std.specs.Prelude.{ℕ, Bool, ◌==◌, List, length, Option, None, if◌then◌else◌, nat_le}
use Rattle.std.specs.List.{list_all}
use Rattle.std.specs.Int.Digits.{number_from_digits}
use Rattle.sel_text.specs.Number.{number_in}
use Rattle.sel_text.specs.Parts.{parts, each}

-- the four numbers of any size that a text writes with dots between them, if it does
abbrev pub dotted_in : List ℕ → Option (List ℕ)
dotted_in text = if length (parts 46 text) == 4 then each number_in (parts 46 text) else None

-- whether each number is an octet
abbrev pub are_octets : List ℕ → Bool
are_octets numbers = list_all (λ number. nat_le number 255) numbers

-- the address that octets write, the first one highest
abbrev pub address_of_octets : List ℕ → ℕ
address_of_octets octets = number_from_digits 256 octets
