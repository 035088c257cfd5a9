-- Groups with colons between them, read one after another.
use Rattle.std.proofs.Common.{◌≡◌, ℕ, zero, suc, ◌+◌, ◌-◌, ◌*◌, ◌%◌, ◌^◌, ◌<◌, ◌≤◌, Bool, true, false, cond, leb, ltb, List, [], ◌∷◌, length, refl, sym, ap}
use Rattle.std.proofs.Common.{◌∙◌, Option, Some, None, option_map, option_and_then, zero-add, arith}
use Rattle.std.specs.Int.Digits.{number_from_digits_after}
use Rattle.std.proofs.Math.Nat.{suc-mul, mul-le-mul_right, pow-suc}
use Rattle.std.proofs.Math.Pow.{pow-add}
use Rattle.std.proofs.lemmas.Bool.{lt-leb, ltb-false}
use Rattle.std.proofs.lemmas.Bool.Decides.{nat_tests}
use Rattle.sel_text.specs.Parts.{cut}
use Rattle.sel_text.specs.Six.{group_in, groups_in}
use Rattle.sel_text.specs.inner.Reading.{counted, with_group}
use Rattle.sel_text.proofs.Digits.{power_mono}
use Rattle.sel_text.proofs.Cuts.{parts-cut}

-- groups as one number after n groups that make `value`, if they are at most eight with those
abbrev pub counted_after : ℕ × ℕ → List ℕ → Option (ℕ × ℕ)
counted_after so_far groups =
    cond (leb (so_far.1 + length groups) 8) (Some (number_from_digits_after 65536 so_far.0 groups, so_far.1 + length groups)) None

pub counted_start : (groups : Option (List ℕ)) → option_and_then (counted_after (0, 0)) groups ≡ option_and_then counted groups
counted_start None = refl
counted_start (Some groups) = rw zero-add

groups_in_more : (text group more : List ℕ) → cut 58 text ≡ Some (group, more)
    → groups_in text ≡ option_and_then (λ first. option_map (λ rest. first ∷ rest) (groups_in more)) (group_in group)
groups_in_more text group more is = rw (parts-cut 58 text, is)

groups_in_last : (text : List ℕ) → cut 58 text ≡ None → groups_in text ≡ option_and_then (λ (group : ℕ). Some (group ∷ [])) (group_in text)
groups_in_last text is = rw (parts-cut 58 text, is)

-- with one group more, a number of groups is within eight where the one before is below
room : (n : ℕ) → leb (n + 1) 8 ≡ ltb n 8
room n = grind (arith, nat_tests)

last_by : (so_far : ℕ × ℕ) (group : Option ℕ)
    → option_and_then (counted_after so_far) (option_and_then (λ (g : ℕ). Some (g ∷ [])) group) ≡ with_group so_far group
last_by so_far None = refl
last_by so_far (Some g) = rw room

pub counted_last : (so_far : ℕ × ℕ) (text : List ℕ) → cut 58 text ≡ None
    → option_and_then (counted_after so_far) (groups_in text) ≡ with_group so_far (group_in text)
counted_last so_far text is = rw (groups_in_last text is) (last_by so_far (group_in text))

-- a group before others, counted before them or with them
shifted : (so_far : ℕ × ℕ) (g : ℕ) (groups : List ℕ) (fits : Bool) → ltb so_far.1 8 ≡ fits
    → counted_after so_far (g ∷ groups) ≡ option_and_then (λ next. counted_after next groups) (cond fits (Some (so_far.0 * 65536 + g, so_far.1 + 1)) None)
shifted so_far g groups true fits =
    let count : so_far.1 + suc (length groups) ≡ (so_far.1 + 1) + length groups = omega arith in
    rw count
shifted so_far g groups false full =
    let many = lt-leb (so_far.1 + suc (length groups)) 8 (omega (arith, ltb-false so_far.1 8 full)) in
    rw many

more_by : (so_far : ℕ × ℕ) (group : Option ℕ) (more : Option (List ℕ))
    → option_and_then (counted_after so_far) (option_and_then (λ first. option_map (λ rest. first ∷ rest) more) group)
    ≡ option_and_then (λ next. option_and_then (counted_after next) more) (with_group so_far group)
more_by so_far None more = refl
more_by so_far (Some g) None =
    elim (ltb so_far.1 8) as (λ fits. None ≡ option_and_then (λ (next : ℕ
    × ℕ). option_and_then (counted_after next) None) (cond fits (Some (so_far.0 * 65536 + g, so_far.1 + 1)) None)) [ true ↦ refl | false ↦ refl ]
more_by so_far (Some g) (Some groups) = shifted so_far g groups (ltb so_far.1 8) refl

pub counted_more : (so_far : ℕ × ℕ) (text group more : List ℕ) → cut 58 text ≡ Some (group, more)
    → option_and_then (counted_after so_far) (groups_in text)
    ≡ option_and_then (λ next. option_and_then (counted_after next) (groups_in more)) (with_group so_far (group_in group))
counted_more so_far text group more is = rw (groups_in_more text group more is) (more_by so_far (group_in group) (groups_in more))

pub two_to_groups : (n : ℕ) → 2 ^ (16 * n) ≡ 65536 ^ n
two_to_groups zero = refl
two_to_groups (suc n) =
    let more : 16 * suc n ≡ 16 * n + 16 = omega arith in
    ap (λ (k : ℕ). 2 ^ k) more ∙ pow-add 2 (16 * n) 16 ∙ ap (λ (k : ℕ). k * 65536) (two_to_groups n) ∙ sym (pow-suc 65536 n)

-- groups and the rest of some number of groups
whole : (n all : ℕ) → n ≤ all → 65536 ^ n * 65536 ^ (all - n) ≡ 65536 ^ all
whole n all few =
    let both : n + (all - n) ≡ all = omega arith in
    sym (pow-add 65536 n (all - n)) ∙ ap (λ (k : ℕ). 65536 ^ k) both

one_more : (n : ℕ) → n ≤ 7 → 65536 ^ (8 - n) ≡ 65536 ^ (7 - n) * 65536
one_more n few =
    let more : 8 - n ≡ suc (7 - n) = omega arith in
    ap (λ (k : ℕ). 65536 ^ k) more ∙ pow-suc 65536 (7 - n)

-- a number of n groups at the place before the other groups
within : (value n all : ℕ) → n ≤ all → value < 65536 ^ n → value * 65536 ^ (all - n) + 65536 ^ (all - n) ≤ 65536 ^ all
within value n all few small =
    let place = 65536 ^ (all - n) in
    let below : suc value * place ≤ 65536 ^ n * place = mul-le-mul_right place small in
    omega (arith, below, whole n all few, suc-mul value place)

pub joined_shift : (value n : ℕ) → n ≤ 7 → value < 65536 ^ n → value * 2 ^ (16 * (7 - n)) % 2 ^ 128 * 65536 % 2 ^ 128 ≡ value * 65536 ^ (8 - n)
joined_shift value n few small =
    let bound = within value n 7 few small in
    let some : 1 ≤ 65536 ^ (7 - n) = power_mono 65536 0 (7 - n) (omega arith) (omega arith) in
    rw (two_to_groups (7 - n), one_more n few) (omega arith)

pub joined_fits : (value n after m : ℕ) → n + m ≤ 7 → value < 65536 ^ n → after < 65536 ^ m → value * 65536 ^ (8 - n) + after < 2 ^ 128
joined_fits value n after m few small also_small =
    omega (arith, within value n 8 (omega arith) small, power_mono 65536 m (8 - n) (omega arith) (omega arith))
