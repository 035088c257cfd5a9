-- IPv6 addresses, as texts write them (RFC 4291 section 2.2, forms 1 and 2).
use Rattle.std.specs.Prelude.{ℕ, ◌+◌, ◌-◌, Bool, ◌&&◌, ◌==◌, List, [], ◌∷◌, ◌++◌, length, take, drop, replicate, zip, position, Option, Some, None}
use Rattle.std.specs.Prelude.{option_map, option_and_then, nat_lt, nat_le, if◌then◌else◌}
use Rattle.std.specs.List.{list_all}
use Rattle.std.specs.Char.{is_ascii_hexdigit}
use Rattle.std.specs.Str.Parse.{digits_value}
use Rattle.std.specs.Int.Digits.{number_from_digits}
use Rattle.sel_text.specs.Parts.{parts, each, pair}

-- one to four hexadecimal digits, of either case
abbrev pub is_group : List ℕ → Bool
is_group text = (nat_lt 0 (length text) && nat_le (length text) 4) && list_all is_ascii_hexdigit text

-- the sixteen bits that a group writes
abbrev pub group_in : List ℕ → Option ℕ
group_in text = if is_group text then Some (digits_value 16 text) else None

-- the groups that a text writes with `:` between them, if it does
abbrev pub groups_in : List ℕ → Option (List ℕ)
groups_in text = each group_in (parts 58 text)

-- the same on one side of `::`, where there may be none
abbrev pub side_in : List ℕ → Option (List ℕ)
side_in [] = Some []
side_in (byte ∷ more) = groups_in (byte ∷ more)

-- where the first `::` begins
abbrev pub double_place : List ℕ → Option ℕ
double_place text = position (λ (next : ℕ × ℕ). next.0 == 58 && next.1 == 58) (zip text (drop 1 text))

-- what stands before the first `::` and after it, if there is one
abbrev pub cut_double : List ℕ → Option (List ℕ × List ℕ)
cut_double text = option_map (λ (at : ℕ). (take at text, drop (at + 2) text)) (double_place text)

-- eight groups, and no others
abbrev pub all_eight : List ℕ → Option (List ℕ)
all_eight groups = if length groups == 8 then Some groups else None

-- eight groups, of which at most seven are written and those between are zero
abbrev pub filled : List ℕ × List ℕ → Option (List ℕ)
filled sides =
    let written = length sides.0 + length sides.1 in
    if nat_le written 7 then Some (sides.0 ++ (replicate (8 - written) 0 ++ sides.1)) else None

-- the eight groups of a text, by its first `::`
abbrev pub eight_by : List ℕ → Option (List ℕ × List ℕ) → Option (List ℕ)
eight_by text None = option_and_then all_eight (groups_in text)
eight_by text (Some sides) = option_and_then filled (pair (side_in sides.0) (side_in sides.1))

-- the eight groups that a text writes, if it writes an IPv6 address
abbrev pub eight_in : List ℕ → Option (List ℕ)
eight_in text = eight_by text (cut_double text)

-- the address that eight groups write, the first one highest
abbrev pub address_of_groups : List ℕ → ℕ
address_of_groups groups = number_from_digits 65536 groups
