-- A printed IPv6 address is read as itself.
use Rattle.std.proofs.Common.{◌≡◌, ℕ, zero, suc, ◌+◌, ◌/◌, ◌%◌, ◌^◌, ◌<◌, true, List, [], ◌∷◌, map, length, refl, sym, ap, ◌∙◌, Some, zero-add, Ok, arith}
use Rattle.std.specs.List.{AllByRecursion}
use Rattle.std.specs.Char.{digit_char, is_ascii_hexdigit}
use Rattle.std.specs.Str.Parse.{digits_value}
use Rattle.std.specs.Int.Digits.{number_from_digits}
use Rattle.std.proofs.Math.Arith.{mod-mul}
use Rattle.std.proofs.Math.Nat.{pow-succ'}
use Rattle.std.proofs.lemmas.Str.{digit_value-digit_char}
use Rattle.std.proofs.lemmas.Bool.Decides.{nat_tests}
use Rattle.sel_text.specs.Parts.{each}
use Rattle.sel_text.specs.Six.{group_in, address_of_groups}
use Rattle.sel_text.specs.Text.{lowest_groups, group_text, six_text}
use Rattle.sel_text.proofs.Digits.{power_mono}
use Rattle.sel_text.proofs.Sides.{number_after_is}
use Rattle.sel_text.specs.Spelling.{whole}
use Rattle.sel_text.proofs.Spelled.{spelled_is_read}
use Rattle.sel_text.specs.declared.address.Address.TheVariants.{Six}
use Rattle.sel_text.specs.Address.{address_meaning}

digit_is_hex : (d : ℕ) → d < 16 → is_ascii_hexdigit (digit_char d) ≡ true
digit_is_hex d small = grind (arith, nat_tests)

group_value : (group : ℕ) → group < 65536 → digits_value 16 (group_text group) ≡ group
group_value group small =
    rw (
      digit_value-digit_char (group / 4096) (omega arith),
      digit_value-digit_char (group / 256 % 16) (omega arith),
      digit_value-digit_char (group / 16 % 16) (omega arith),
      digit_value-digit_char (group % 16) (omega arith),
    ) (omega arith)

group_in-group_text : (group : ℕ) → group < 65536 → group_in (group_text group) ≡ Some group
group_in-group_text group small =
    rw (
      digit_is_hex (group / 4096) (omega arith),
      digit_is_hex (group / 256 % 16) (omega arith),
      digit_is_hex (group / 16 % 16) (omega arith),
      digit_is_hex (group % 16) (omega arith),
    )
    (ap Some (group_value group small))

each-groups : (groups : List ℕ) → AllByRecursion (λ group. group < 65536) groups → each group_in (map group_text groups) ≡ Some groups
each-groups [] small = refl
each-groups (group ∷ groups) small = rw (group_in-group_text group small.0, each-groups groups small.1)

lowest_small : (n address : ℕ) → AllByRecursion (λ group. group < 65536) (lowest_groups n address)
lowest_small zero address = tt
lowest_small (suc n) address = (omega arith, lowest_small n address)

length-lowest_groups : (n address : ℕ) → length (lowest_groups n address) ≡ n
length-lowest_groups zero address = refl
length-lowest_groups (suc n) address = ap suc (length-lowest_groups n address)

-- the lowest groups write what the address is below them
value-lowest_groups : (n address : ℕ) → number_from_digits 65536 (lowest_groups n address) ≡ address % 65536 ^ n
value-lowest_groups zero address = omega arith
value-lowest_groups (suc n) address =
    let group = address / 65536 ^ n % 65536 in
    number_after_is 65536 (0 + group) (lowest_groups n address)
    ∙ rw (length-lowest_groups, value-lowest_groups n address, zero-add)
    (sym (mod-mul address {m = 65536} {c = 65536 ^ n} (omega arith) (power_mono 65536 0 n (omega arith) (omega arith)))
    ∙ ap (λ (size : ℕ). address % size) (sym (pow-succ' 65536 n)))

pub address_meaning-six : (address : ℕ) → address < 2 ^ 128 → address_meaning (six_text address) ≡ Ok (Six address)
address_meaning-six address small =
    let groups = lowest_groups 8 address in
    let value : number_from_digits 65536 groups ≡ address = omega (arith, value-lowest_groups 8 address) in
    let spells = whole (map group_text groups) groups (each-groups groups (lowest_small 8 address)) (length-lowest_groups 8 address) in
    spelled_is_read (six_text address) (address_of_groups groups) spells ∙ ap (λ number. Ok (Six number)) value
