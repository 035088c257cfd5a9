-- An address by the groups before its `::` and after it.
use Rattle.std.proofs.Common.{◌≡◌, ℕ, zero, suc, ◌+◌, ◌-◌, ◌*◌, ◌^◌, ◌≤◌, Bool, true, false, cond, eqb, leb, ◌==◌, List, [], ◌∷◌, ◌++◌, length, replicate, refl}
use Rattle.std.proofs.Common.{sym, ap, ◌∙◌, Option, Some, None, ok_or, option_and_then, Result, Err, arith}
use Rattle.std.specs.Int.Digits.{number_from_digits, number_from_digits_after}
use Rattle.std.proofs.Math.Nat.{pow-zero, pow-suc, mul_assoc}
use Rattle.std.proofs.Math.Pow.{pow-add}
use Rattle.std.proofs.lemmas.Int.Digits.{number_after_append}
use Rattle.std.proofs.lemmas.Bool.{le-leb, leb-true, eqb-true}
use Rattle.sel_text.specs.declared.fault.TextFault.{TextFault}
use Rattle.sel_text.specs.declared.fault.TextFault.TheVariants.{NotInGrammar}
use Rattle.sel_text.specs.Fault.{bounded}
use Rattle.sel_text.specs.Parts.{pair}
use Rattle.sel_text.specs.Six.{groups_in, side_in, all_eight, filled, eight_by, cut_double, address_of_groups}
use Rattle.sel_text.specs.inner.Reading.{six_meaning}
use Rattle.sel_text.specs.inner.Reading.{counted, all_groups, joined_groups, address_by}

one_place : (n b d power rest : ℕ) → (n * b + d) * power + rest ≡ n * (power * b) + ((0 * b + d) * power + rest)
one_place n b d power rest = grind arith

-- digits after a number, apart
pub number_after_is : (b n : ℕ) (digits : List ℕ) → number_from_digits_after b n digits ≡ n * b ^ length digits + number_from_digits b digits
number_after_is b n [] = rw (pow-zero b) (omega arith)
number_after_is b n (d ∷ digits) =
    number_after_is b (n * b + d) digits ∙ one_place n b d (b ^ length digits) (number_from_digits b digits)
    ∙ sym (ap (λ (prefix : ℕ). n * prefix + number_from_digits b (d ∷ digits)) (pow-suc b (length digits))
    ∙ ap (λ (back : ℕ). n * (b ^ length digits * b) + back) (number_after_is b (0 * b + d) digits))

one_zero : (n b power : ℕ) → (n * b + 0) * power ≡ n * (power * b)
one_zero n b power = grind arith

number_after_zeros : (b n k : ℕ) → number_from_digits_after b n (replicate k 0) ≡ n * b ^ k
number_after_zeros b n zero = rw (pow-zero b) (omega arith)
number_after_zeros b n (suc k) = number_after_zeros b (n * b + 0) k ∙ one_zero n b (b ^ k) ∙ sym (ap (λ (power : ℕ). n * power) (pow-suc b k))

filled_value : (before after : List ℕ) → length before + length after ≤ 7
    → address_of_groups (before ++ (replicate (8 - (length before + length after)) 0 ++ after))
    ≡ address_of_groups before * 65536 ^ (8 - length before) + address_of_groups after
filled_value before after few =
    let zeros = 8 - (length before + length after) in
    let behind : 8 - length before ≡ zeros + length after = omega arith in
    rw (number_after_append, number_after_append, number_after_zeros, behind, pow-add 65536 zeros (length after))
    (number_after_is 65536 (address_of_groups before * 65536 ^ zeros) after
    ∙ ap (λ (prefix : ℕ). prefix + address_of_groups after) (mul_assoc (address_of_groups before) (65536 ^ zeros) (65536 ^ length after)))

counted_few : (groups : List ℕ) → length groups ≤ 8 → counted groups ≡ Some (address_of_groups groups, length groups)
counted_few groups few = let few_test = le-leb (length groups) 8 few in rw few_test

-- too many groups on both sides together, whether or not one side has too many
none_by_sides : (first second : Bool) (before after : ℕ × ℕ) → leb (before.1 + after.1) 7 ≡ false
    → ◌≡◌ {A = Result ℕ TextFault} (Err NotInGrammar)
    (ok_or (option_and_then (λ prefix. option_and_then (joined_groups prefix) (cond second (Some after) None)) (cond first (Some before) None)) NotInGrammar)
none_by_sides true true before after many = rw many
none_by_sides true false before after many = refl
none_by_sides false second before after many = refl

by_sides : (before after : List ℕ) (fits : Bool) → leb (length before + length after) 7 ≡ fits
    → bounded (λ groups. true) address_of_groups (cond fits (Some (before ++ (replicate (8 - (length before + length after)) 0 ++ after))) None)
    ≡ ok_or (option_and_then (λ first. option_and_then (joined_groups first) (counted after)) (counted before)) NotInGrammar
by_sides before after true few =
    let few_groups = leb-true (length before + length after) 7 few in
    rw (counted_few before (omega arith), counted_few after (omega arith), few, filled_value before after few_groups)
by_sides before after false many =
    none_by_sides (leb (length before) 8) (leb (length after) 8) (address_of_groups before, length before) (address_of_groups after, length after) many

by_all : (groups : List ℕ) (eight : Bool) → eqb (length groups) 8 ≡ eight
    → bounded (λ groups. true) address_of_groups (cond eight (Some groups) None) ≡ ok_or (option_and_then all_groups (counted groups)) NotInGrammar
by_all groups true is =
    let count = eqb-true (length groups) 8 is in
    rw (counted_few groups (omega arith), is)
by_all groups false is =
    elim (leb (length groups) 8) as (λ few. Err NotInGrammar
    ≡ ok_or (option_and_then all_groups (cond few (Some (address_of_groups groups, length groups)) None)) NotInGrammar) [
      | true ↦ rw is
      | false ↦ refl
    ]

by_groups : (groups : Option (List ℕ)) → bounded (λ groups. true) address_of_groups (option_and_then all_eight groups)
    ≡ ok_or (option_and_then all_groups (option_and_then counted groups)) NotInGrammar
by_groups None = refl
by_groups (Some groups) = by_all groups (length groups == 8) refl

by_both : (before after : Option (List ℕ))
    → bounded (λ groups. true) address_of_groups (option_and_then filled (pair before after))
    ≡ ok_or (option_and_then (λ first. option_and_then (joined_groups first) (option_and_then counted after)) (option_and_then counted before)) NotInGrammar
by_both None after = refl
by_both (Some before) None =
    elim (counted before) as (λ first. Err NotInGrammar
    ≡ ok_or (option_and_then (λ (first : ℕ × ℕ). option_and_then (joined_groups first) None) first) NotInGrammar) [ None ↦ refl | Some first ↦ refl ]
by_both (Some before) (Some after) = by_sides before after (leb (length before + length after) 7) refl

by_double : (text : List ℕ) (sides : Option (List ℕ × List ℕ))
    → bounded (λ groups. true) address_of_groups (eight_by text sides) ≡ ok_or (address_by text sides) NotInGrammar
by_double text None = by_groups (groups_in text)
by_double text (Some sides) = by_both (side_in sides.0) (side_in sides.1)

pub six_meaning_by_sides : (text : List ℕ) → six_meaning text ≡ ok_or (address_by text (cut_double text)) NotInGrammar
six_meaning_by_sides text = by_double text (cut_double text)
