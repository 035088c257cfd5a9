-- Digits read one after another.
use Rattle.std.proofs.Common.{◌≡◌, ℕ, zero, suc, ◌+◌, ◌-◌, ◌*◌, ◌^◌, ◌<◌, ◌≤◌, true, List, [], ◌∷◌, ◌++◌, length, get_or, take, drop, refl, sym, ap, ◌∙◌, arith}
use Rattle.std.specs.List.{list_all}
use Rattle.std.specs.Char.{is_ascii_digit, digit_value}
use Rattle.std.specs.Str.Parse.{digits_value, digits_value_after}
use Rattle.std.proofs.Math.Nat.{pow-le-pow_right}
use Rattle.std.proofs.lemmas.Bool.{and_parts}
use Rattle.std.proofs.lemmas.Bool.Decides.{nat_tests}
use Rattle.std.proofs.lemmas.List.{at_drop_more, take-append-drop}

pub ascii_digit_bounds : (c : ℕ) → is_ascii_digit c ≡ true → (48 ≤ c) × (c ≤ 57)
ascii_digit_bounds c digit = grind (arith, nat_tests)

pub digit_value-ascii_digit : (c : ℕ) → is_ascii_digit c ≡ true → digit_value c ≡ c - 48
digit_value-ascii_digit c digit = grind (arith, nat_tests)

-- each of the bytes that are all digits
pub digit_at : (ds : List ℕ) (i : ℕ) → list_all is_ascii_digit ds ≡ true → i < length ds → is_ascii_digit (get_or ds i 0) ≡ true
digit_at [] i all inside = absurd (omega arith)
digit_at (d ∷ ds) zero all inside = (and_parts (is_ascii_digit d) (list_all is_ascii_digit ds) all).0
digit_at (d ∷ ds) (suc i) all inside = digit_at ds i (and_parts (is_ascii_digit d) (list_all is_ascii_digit ds) all).1 (omega arith)

-- more digits never make a number smaller
pub digits_value_after-ge : (n : ℕ) (ds : List ℕ) → n ≤ digits_value_after 10 n ds
digits_value_after-ge n [] = omega arith
digits_value_after-ge n (d ∷ ds) = omega (arith, digits_value_after-ge (n * 10 + digit_value d) ds)

-- one digit on
pub digits_value_after_next : (n : ℕ) (ds : List ℕ) (i : ℕ) → list_all is_ascii_digit ds ≡ true → i < length ds
    → digits_value_after 10 n (drop i ds) ≡ digits_value_after 10 (n * 10 + (get_or ds i 0 - 48)) (drop (i + 1) ds)
digits_value_after_next n ds i all inside =
    at_drop_more (digits_value_after 10 n) ds i 0 inside
    ∙ ap (λ d. digits_value_after 10 (n * 10 + d) (drop (i + 1) ds)) (digit_value-ascii_digit (get_or ds i 0) (digit_at ds i all inside))

pub digits_value_after-append : (n : ℕ) (ds es : List ℕ) → digits_value_after 10 n (ds ++ es) ≡ digits_value_after 10 (digits_value_after 10 n ds) es
digits_value_after-append n [] es = refl
digits_value_after-append n (d ∷ ds) es = digits_value_after-append (n * 10 + digit_value d) ds es

-- a number is no smaller than what its digits so far and the next one write
pub next_digit-le : (n whole : ℕ) (ds : List ℕ) (i : ℕ) → list_all is_ascii_digit ds ≡ true → i < length ds → digits_value_after 10 n (drop i ds) ≡ whole
    → n * 10 + (get_or ds i 0 - 48) ≤ whole
next_digit-le n whole ds i all inside is =
    omega (arith, digits_value_after-ge (n * 10 + (get_or ds i 0 - 48)) (drop (i + 1) ds), digits_value_after_next n ds i all inside)

pub power_mono : (b i j : ℕ) → 0 < b → i ≤ j → b ^ i ≤ b ^ j
power_mono b i j positive h = pow-le-pow_right positive h

-- digits in two parts
pub digits_value-split : (n : ℕ) (ds : List ℕ) → digits_value_after 10 (digits_value 10 (take n ds)) (drop n ds) ≡ digits_value 10 ds
digits_value-split n ds = sym (digits_value_after-append 0 (take n ds) (drop n ds)) ∙ ap (digits_value 10) (take-append-drop n ds)
