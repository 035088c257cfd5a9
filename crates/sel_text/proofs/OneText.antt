-- A number and an IPv4 address are each read from one text, the one that they print as.
use Rattle.std.proofs.Common.{◌≡◌, ℕ, zero, suc, ◌+◌, ◌-◌, ◌*◌, ◌/◌, ◌%◌, ◌^◌, ◌<◌, ◌≤◌, Bool, true, false, not, ◌==◌, List, [], ◌∷◌, ◌++◌, refl, sym, ap, ◌∙◌}
use Rattle.std.proofs.Common.{cond, leb, length, map, get_or, Some, None, option_map, Result, Ok, Err, decimal, arith}
use Rattle.std.specs.List.{list_all, join_with_byte}
use Rattle.std.specs.Int.{from_be_bytes, w32}
use Rattle.std.specs.Char.{is_ascii_digit, digit_value}
use Rattle.std.specs.Str.Parse.{digits_value}
use Rattle.std.proofs.lemmas.Bool.{and_parts, and_from, not-true, leb-true, eqb-true, eqb-false, true≢false}
use Rattle.std.proofs.lemmas.Fmt.{decimal_by_steps_wide}
use Rattle.std.proofs.lemmas.Int.Digits.{digits_value_push}
use Rattle.std.proofs.lemmas.List.Folds.{list_all-append}
use Rattle.std.proofs.lemmas.List.Splits.{join_with_byte-slice_split}
use Rattle.std.proofs.lemmas.Nat.{be_bytes_4}
use Rattle.std.proofs.lemmas.List.{length-map}
use Rattle.sel_text.specs.declared.address.Address.TheVariants.{Four, Six}
use Rattle.sel_text.specs.declared.fault.TextFault.{TextFault}
use Rattle.sel_text.specs.Address.{has_colon, address_meaning}
use Rattle.sel_text.proofs.Faults.{mapped}
use Rattle.sel_text.specs.Four.{dotted_in, are_octets, address_of_octets}
use Rattle.sel_text.specs.inner.Reading.{four_meaning, six_meaning}
use Rattle.sel_text.specs.Parts.{parts, each}
use Rattle.sel_text.specs.Text.{four_text}
use Rattle.sel_text.specs.Number.{leads, is_number, number_in, number_meaning}
use Rattle.sel_text.proofs.Digits.{ascii_digit_bounds, digit_value-ascii_digit, digits_value_after-ge}
use Rattle.sel_text.proofs.Faults.{bounded_ok}
use Rattle.sel_text.proofs.Families.{meaning_as_four, meaning_as_six}
use Rattle.sel_text.proofs.Options.{and_then_some, map_some}

-- the last byte of a text, apart
last_apart : (byte : ℕ) (more : List ℕ) → (prefix : List ℕ) × (last : ℕ) × (byte ∷ more ≡ prefix ++ last ∷ [])
last_apart byte [] = ([], byte, refl)
last_apart byte (next ∷ more) =
    let apart = last_apart next more in
    (byte ∷ apart.0, apart.1, ap (λ text. byte ∷ text) apart.2)

-- every number that has the value is the text
abbrev IsOneText : ℕ → List ℕ → Type 0
IsOneText n ds = (text : List ℕ) → is_number text ≡ true → digits_value 10 text ≡ n → text ≡ ds

one_digit : (n : ℕ) → n < 10 → IsOneText n ((48 + n) ∷ [])
one_digit n small [] is value = absurd (true≢false (sym is))
one_digit n small (c ∷ []) is value =
    let digit = (and_parts (is_ascii_digit c) true is).0 in
    let c_is : c ≡ 48 + n = omega (arith, digit_value-ascii_digit c digit, ascii_digit_bounds c digit) in
    ap (λ byte. byte ∷ []) c_is
one_digit n small (c ∷ d ∷ more) is value =
    let both = and_parts (not (c == 48)) (list_all is_ascii_digit (c ∷ d ∷ more)) is in
    let digit = (and_parts (is_ascii_digit c) (list_all is_ascii_digit (d ∷ more)) both.1).0 in
    absurd (omega (
      arith,
      digit_value-ascii_digit c digit,
      ascii_digit_bounds c digit,
      eqb-false c 48 (not-true (c == 48) both.0),
      digits_value_after-ge ((0 * 10 + digit_value c) * 10 + digit_value d) more,
    ))

leads_front : (digit last : ℕ) (prefix : List ℕ) → leads digit (prefix ++ last ∷ []) ≡ true → leads digit prefix ≡ true
leads_front digit last [] leading = refl
leads_front digit last (next ∷ prefix) leading = leading

-- digits before the last one
is_number_front : (digit last : ℕ) (prefix : List ℕ) → is_number (digit ∷ (prefix ++ last ∷ [])) ≡ true
    → (is_number (digit ∷ prefix) ≡ true) × (is_ascii_digit last ≡ true)
is_number_front digit last prefix is =
    let both = and_parts (leads digit (prefix ++ last ∷ [])) (list_all is_ascii_digit (digit ∷ (prefix ++ last ∷ []))) is in
    let all = and_parts (list_all is_ascii_digit (digit ∷ prefix)) (list_all is_ascii_digit (last ∷ []))
    (sym (list_all-append is_ascii_digit (digit ∷ prefix) (last ∷ [])) ∙ both.1) in (
      and_from (leads digit prefix) (list_all is_ascii_digit (digit ∷ prefix)) (leads_front digit last prefix both.0) all.0,
      (and_parts (is_ascii_digit last) true all.1).0,
    )

more_by_front : (n : ℕ) (ds : List ℕ) → 10 ≤ n → IsOneText (n / 10) ds → (prefix : List ℕ) (last : ℕ) → is_number (prefix ++ last ∷ []) ≡ true
    → digits_value 10 (prefix ++ last ∷ []) ≡ n → prefix ++ last ∷ [] ≡ ds ++ (48 + n % 10) ∷ []
more_by_front n ds large one [] last is value =
    let digit = (and_parts (is_ascii_digit last) true is).0 in
    absurd (omega (arith, digit_value-ascii_digit last digit, ascii_digit_bounds last digit))
more_by_front n ds large one (digit ∷ prefix) last is value =
    let both = is_number_front digit last prefix is in
    let bounds = ascii_digit_bounds last both.1 in
    let sum : digits_value 10 (digit ∷ prefix) * 10 + (last - 48) ≡ n =
    omega (arith, digits_value_push 10 (digit ∷ prefix) last, digit_value-ascii_digit last both.1) in
    let front_is : digit ∷ prefix ≡ ds = one (digit ∷ prefix) both.0 (omega (arith, sum, bounds)) in
    let last_is : last ≡ 48 + n % 10 = omega (arith, sum, bounds) in
    ap (λ text. text ++ last ∷ []) front_is ∙ ap (λ byte. ds ++ byte ∷ []) last_is

more_digits : (n : ℕ) (ds : List ℕ) → 10 ≤ n → IsOneText (n / 10) ds → IsOneText n (ds ++ (48 + n % 10) ∷ [])
more_digits n ds large one [] is value = absurd (true≢false (sym is))
more_digits n ds large one (byte ∷ more) is value =
    let apart = last_apart byte more in
    apart.2 ∙ more_by_front n ds large one apart.0 apart.1 (sym (ap is_number apart.2) ∙ is) (sym (ap (digits_value 10) apart.2) ∙ value)

decimal_is_one : (n : ℕ) → n < 10 ^ 64 → IsOneText n (decimal n)
decimal_is_one = decimal_by_steps_wide IsOneText one_digit more_digits

pub number_in_one : (text : List ℕ) (n : ℕ) → n < 10 ^ 64 → number_in text ≡ Some n → text ≡ decimal n
number_in_one text n small is = by_test (is_number text) refl is
  where
    by_test : (b : Bool) → is_number text ≡ b → cond b (Some (digits_value 10 text)) None ≡ Some n → text ≡ decimal n
    by_test true number same = decimal_is_one n small text number cc
    by_test false number same = absurd cc

pub number_meaning_one : (most : ℕ) (text : List ℕ) (n : ℕ) → n < 10 ^ 64 → number_meaning most text ≡ Ok n → text ≡ decimal n
number_meaning_one most text n small is =
    let found = bounded_ok (λ n. leb n most) (λ n. n) (number_in text) n is in
    number_in_one text n small (found.1 ∙ ap Some found.3)

-- each number with its one text
each_one : (texts : List (List ℕ)) (numbers : List ℕ) → each number_in texts ≡ Some numbers → are_octets numbers ≡ true → texts ≡ map decimal numbers
each_one [] numbers is fit = let none : [] ≡ numbers = cc in ap (map decimal) none
each_one (text ∷ texts) numbers is fit =
    let first = and_then_some (λ number. option_map (λ rest. number ∷ rest) (each number_in texts)) (number_in text) numbers is in
    let rest = map_some (λ rest. first.0 ∷ rest) (each number_in texts) numbers first.2 in
    let both = and_parts (leb first.0 255) (are_octets rest.0) (ap are_octets rest.2 ∙ fit) in
    let text_is : text ≡ decimal first.0 = number_in_one text first.0 (omega (arith, leb-true first.0 255 both.0)) first.1 in
    ap (λ t. t ∷ texts) text_is ∙ ap (λ more. decimal first.0 ∷ more) (each_one texts rest.0 rest.1 both.1) ∙ ap (map decimal) rest.2

octets_value : (octets : List ℕ) → length octets ≡ 4 → address_of_octets octets ≡ from_be_bytes w32 octets
octets_value [] four = absurd (omega arith)
octets_value (a ∷ []) four = absurd (omega arith)
octets_value (a ∷ b ∷ []) four = absurd (omega arith)
octets_value (a ∷ b ∷ c ∷ []) four = absurd (omega arith)
octets_value (a ∷ b ∷ c ∷ d ∷ []) four = omega arith
octets_value (a ∷ b ∷ c ∷ d ∷ e ∷ more) four = absurd (omega arith)

octet_at : (octets : List ℕ) → are_octets octets ≡ true → (i : ℕ) → get_or octets i 0 < 256
octet_at [] fit i = omega arith
octet_at (octet ∷ octets) fit zero = omega (arith, leb-true octet 255 (and_parts (leb octet 255) (are_octets octets) fit).0)
octet_at (octet ∷ octets) fit (suc i) = octet_at octets (and_parts (leb octet 255) (are_octets octets) fit).1 i

dotted_some : (text octets : List ℕ) → dotted_in text ≡ Some octets → (length (parts 46 text) ≡ 4) × (each number_in (parts 46 text) ≡ Some octets)
dotted_some text octets is = by_test (length (parts 46 text) == 4) refl is
  where
    by_test : (b : Bool) → (length (parts 46 text) == 4) ≡ b → cond b (each number_in (parts 46 text)) None ≡ Some octets
        → (length (parts 46 text) ≡ 4) × (each number_in (parts 46 text) ≡ Some octets)
    by_test true four same = (eqb-true (length (parts 46 text)) 4 four, same)
    by_test false four same = absurd cc

four_meaning_one : (text : List ℕ) (address : ℕ) → four_meaning text ≡ Ok address → text ≡ four_text address
four_meaning_one text address is =
    let found = bounded_ok are_octets address_of_octets (dotted_in text) address is in
    let written = dotted_some text found.0 found.1 in
    let texts_are = each_one (parts 46 text) found.0 written.1 found.2 in
    let four : length found.0 ≡ 4 = sym (length-map found.0 decimal) ∙ sym (ap length texts_are) ∙ written.0 in
    let octets_are = be_bytes_4 found.0 address four (octet_at found.0 found.2) (sym found.3 ∙ octets_value found.0 four) in
    sym (join_with_byte-slice_split 46 text) ∙ ap (join_with_byte 46) texts_are ∙ sym (ap (λ octets. join_with_byte 46 (map decimal octets)) octets_are)

four_by_family : (text : List ℕ) (address : ℕ) (colon : Bool) → has_colon text ≡ colon → address_meaning text ≡ Ok (Four address) → text ≡ four_text address
four_by_family text address true colon is = absurd (no_four (six_meaning text) (sym (meaning_as_six text colon) ∙ is))
  where
    no_four : (six : Result ℕ TextFault) → mapped Six six ≡ Ok (Four address) → ⊥
    no_four (Ok number) same = cc
    no_four (Err fault) same = cc
four_by_family text address false colon is = four_meaning_one text address (of_four (four_meaning text) (sym (meaning_as_four text colon) ∙ is))
  where
    of_four : (four : Result ℕ TextFault) → mapped Four four ≡ Ok (Four address) → four ≡ Ok address
    of_four (Ok number) same = cc
    of_four (Err fault) same = cc

pub four_has_one_text : (text : List ℕ) (address : ℕ) → address_meaning text ≡ Ok (Four address) → text ≡ four_text address
four_has_one_text text address is = four_by_family text address (has_colon text) refl is
