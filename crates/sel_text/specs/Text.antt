-- How numbers and addresses are printed.
use Rattle.std.specs.Prelude.{ℕ, zero, suc, ◌/◌, ◌%◌, ◌^◌, List, [], ◌∷◌, map, decimal}
use Rattle.std.specs.List.{join_with_byte}
use Rattle.std.specs.Char.{digit_char}
use Rattle.std.specs.Int.{to_be_bytes, w32}
use Rattle.sel_text.specs.declared.address.Address.{Address}
use Rattle.sel_text.specs.declared.address.Address.TheVariants.{Four, Six}

-- four numbers with dots between them
abbrev pub four_text : ℕ → List ℕ
four_text address = join_with_byte 46 (map decimal (to_be_bytes w32 address))

-- the lowest groups of an address, the highest of them first
abbrev pub lowest_groups : ℕ → ℕ → List ℕ
lowest_groups zero address = []
lowest_groups (suc n) address = (address / 65536 ^ n % 65536) ∷ lowest_groups n address

-- four lower-case hexadecimal digits
abbrev pub group_text : ℕ → List ℕ
group_text group =
    digit_char (group / 4096) ∷ digit_char (group / 256 % 16) ∷ digit_char (group / 16 % 16) ∷ digit_char (group % 16) ∷ []

-- eight groups of four digits with `:` between them
abbrev pub six_text : ℕ → List ℕ
six_text address = join_with_byte 58 (map group_text (lowest_groups 8 address))

-- what an address is printed as
abbrev pub address_text : Address → List ℕ
address_text (Four address) = four_text address
address_text (Six address) = six_text address
