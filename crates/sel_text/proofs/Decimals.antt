-- A printed number is read as itself.
use Rattle.std.proofs.Common.{◌≡◌, ℕ, ◌+◌, ◌/◌, ◌%◌, ◌^◌, ◌<◌, ◌≤◌, Bool, true, false, not, ◌==◌, List, [], ◌∷◌, ◌++◌, refl, ap, ◌∙◌, Some, Ok, decimal, arith}
use Rattle.std.specs.List.{list_all}
use Rattle.std.specs.Char.{is_ascii_digit, digit_value}
use Rattle.std.specs.Str.Parse.{digits_value}
use Rattle.std.proofs.lemmas.Bool.{and_parts, and_from, not_from_false, ne_eqb, le-leb}
use Rattle.std.proofs.lemmas.Bool.Decides.{nat_tests}
use Rattle.std.proofs.lemmas.Fmt.{decimal_by_steps_wide}
use Rattle.std.proofs.lemmas.Int.Digits.{digits_value_push}
use Rattle.std.proofs.lemmas.List.Folds.{list_all-append}
use Rattle.sel_text.specs.Number.{leads, is_number, number_in, number_meaning}

digit_char_is : (d : ℕ) → d < 10 → is_ascii_digit (48 + d) ≡ true
digit_char_is d small = grind (arith, nat_tests)

digit_value_is : (d : ℕ) → d < 10 → digit_value (48 + d) ≡ d
digit_value_is d small = grind (arith, nat_tests)

-- text that begins with no `0`
abbrev no_leading_zero : List ℕ → Bool
no_leading_zero [] = false
no_leading_zero (digit ∷ more) = not (digit == 48)

-- what is known of the digits of a number
record IsText (n : ℕ) (ds : List ℕ) : Type 0 where
  is : is_number ds ≡ true
  value : digits_value 10 ds ≡ n
  leading : 0 < n → no_leading_zero ds ≡ true

one_digit : (n : ℕ) → n < 10 → IsText n ((48 + n) ∷ [])
one_digit n small = record {
  is = rw (digit_char_is n small);
  value = rw (digit_value_is n small) (omega arith);
  leading = λ positive. not_from_false (48 + n == 48) (ne_eqb (48 + n) 48 (λ same. omega arith));
}

digits_push : (ds : List ℕ) (d : ℕ) → d < 10 → list_all is_ascii_digit ds ≡ true → list_all is_ascii_digit (ds ++ (48 + d) ∷ []) ≡ true
digits_push ds d small all =
    list_all-append is_ascii_digit ds ((48 + d) ∷ [])
    ∙ and_from (list_all is_ascii_digit ds) (list_all is_ascii_digit ((48 + d) ∷ [])) all (rw (digit_char_is d small))

digits_in_number : (ds : List ℕ) → is_number ds ≡ true → list_all is_ascii_digit ds ≡ true
digits_in_number [] is = refl
digits_in_number (c ∷ more) is = (and_parts (leads c more) (list_all is_ascii_digit (c ∷ more)) is).1

is_number_push : (ds : List ℕ) (d : ℕ) → d < 10 → is_number ds ≡ true → no_leading_zero ds ≡ true → is_number (ds ++ (48 + d) ∷ []) ≡ true
is_number_push [] d small is leading = absurd cc
is_number_push (c ∷ []) d small is leading =
    and_from (not (c == 48)) (list_all is_ascii_digit (c ∷ (48 + d) ∷ [])) leading (digits_push (c ∷ []) d small (digits_in_number (c ∷ []) is))
is_number_push (c ∷ e ∷ more) d small is leading =
    and_from (not (c == 48)) (list_all is_ascii_digit ((c ∷ e ∷ more)
    ++ (48 + d) ∷ [])) leading (digits_push (c ∷ e ∷ more) d small (digits_in_number (c ∷ e ∷ more) is))

no_leading_zero_push : (ds : List ℕ) (d : ℕ) → no_leading_zero ds ≡ true → no_leading_zero (ds ++ d ∷ []) ≡ true
no_leading_zero_push [] d leading = absurd cc
no_leading_zero_push (c ∷ more) d leading = leading

more_digits : (n : ℕ) (ds : List ℕ) → 10 ≤ n → IsText (n / 10) ds → IsText n (ds ++ (48 + n % 10) ∷ [])
more_digits n ds large prefix =
    let leading = prefix.leading (omega arith) in
    let last : n % 10 < 10 = omega arith in
    record {
      is = is_number_push ds (n % 10) last prefix.is leading;
      value = digits_value_push 10 ds (48 + n % 10) ∙ rw (prefix.value, digit_value_is (n % 10) last) (omega arith);
      leading = λ positive. no_leading_zero_push ds (48 + n % 10) leading;
    }

decimal_is : (n : ℕ) → n < 10 ^ 64 → IsText n (decimal n)
decimal_is = decimal_by_steps_wide IsText one_digit more_digits

pub number_in-decimal : (n : ℕ) → n < 10 ^ 64 → number_in (decimal n) ≡ Some n
number_in-decimal n small = let is = (decimal_is n small).is in rw is (ap Some (decimal_is n small).value)

pub number_meaning-decimal : (most n : ℕ) → n < 10 ^ 64 → n ≤ most → number_meaning most (decimal n) ≡ Ok n
number_meaning-decimal most n small within = rw (number_in-decimal n small, le-leb n most within)

-- the digits of a number
pub digits-decimal : (n : ℕ) → n < 10 ^ 64 → list_all is_ascii_digit (decimal n) ≡ true
digits-decimal n small = digits_in_number (decimal n) (decimal_is n small).is
