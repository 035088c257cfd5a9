-- Names of policy lines and gateways.
use Rattle.std.specs.Prelude.{◌≡◌, ℕ, ◌-◌, Bool, ◌||◌, ◌==◌, List, [], ◌∷◌, ◌++◌, length, take, replicate, Option, Some, None, Result, Ok, if◌then◌else◌}
use Rattle.std.specs.Prelude.{nat_le}
use Rattle.std.specs.List.{list_all}
use Rattle.std.specs.Char.{is_ascii_alphanumeric}
use Rattle.sel_text.specs.declared.fault.TextFault.{TextFault}
use Rattle.sel_text.specs.Fault.{bounded}

-- a letter of ASCII, a digit, `_` or `-`
abbrev pub is_name_byte : ℕ → Bool
is_name_byte byte = is_ascii_alphanumeric byte || (byte == 95 || byte == 45)

-- the name of any length that a text writes, if it writes one: one or more such bytes
abbrev pub name_in : List ℕ → Option (List ℕ)
name_in [] = None
name_in (byte ∷ more) = if list_all is_name_byte (byte ∷ more) then Some (byte ∷ more) else None

-- what a text means as a name, which has at most 64 bytes
abbrev pub name_meaning : List ℕ → Result (List ℕ) TextFault
name_meaning text = bounded (λ name. nat_le (length name) 64) (λ name. name) (name_in text)

-- bytes that are a name
abbrev pub IsName : List ℕ → Type 0
IsName bytes = name_meaning bytes ≡ Ok bytes

-- the 64 bytes that hold a name: its own, and then zeros
abbrev pub padded : List ℕ → List ℕ
padded name = name ++ replicate (64 - length name) 0

-- 64 bytes and a length that hold a name
pub record HoldsName (bytes : List ℕ) (len : ℕ) : Type 0 where
  pub named : IsName (take len bytes)
  pub within : length (take len bytes) ≡ len
  pub rest : padded (take len bytes) ≡ bytes
