-- A text cut at its first `::`.
use Rattle.std.proofs.Common.{◌≡◌, ℕ, suc, ◌+◌, Bool, true, false, not, ◌&&◌, cond, ltb, ◌==◌, List, [], ◌∷◌, ◌++◌, length, take, drop, zip, refl, sym, ap, ◌∙◌}
use Rattle.std.proofs.Common.{Option, Some, None, option_map, one-add, append_assoc, arith}
use Rattle.std.specs.List.{position_or_len}
use Rattle.std.proofs.lemmas.Bool.{and_parts, not-true, lt-ltb, eqb-true, true≢false}
use Rattle.sel_text.specs.Six.{cut_double}
use Rattle.sel_text.proofs.Cuts.{lacks, longer, found_shift}

-- whether a text begins with `:`
abbrev pub begins : List ℕ → Bool
begins [] = false
begins (byte ∷ more) = byte == 58

abbrev is_double : ℕ × ℕ → Bool
is_double next = next.0 == 58 && next.1 == 58

-- what stands before the place of a `::` and after it
abbrev around_double : List ℕ → ℕ → List ℕ × List ℕ
around_double text at = (take at text, drop (at + 2) text)

-- a place found in the rest of a text lies one further in the text
around_shift : (n byte : ℕ) (more : List ℕ) (found : Bool)
    → option_map (around_double (byte ∷ more)) (cond found (Some (1 + n)) None)
    ≡ option_map (longer byte) (option_map (around_double more) (cond found (Some n) None))
around_shift n byte more false = refl
around_shift n byte more true =
    let further : suc n + 2 ≡ suc (n + 2) = omega arith in
    rw (one-add, further)

and-false : (b : Bool) → (b && false) ≡ false
and-false true = refl
and-false false = refl

-- by the first byte
pub cut_double-cons : (byte : ℕ) (more : List ℕ)
    → cut_double (byte ∷ more) ≡ cond (byte == 58 && begins more) (Some ([], drop 1 more)) (option_map (longer byte) (cut_double more))
cut_double-cons byte [] = rw (and-false (byte == 58))
cut_double-cons byte (next ∷ more) =
    let pairs = zip (next ∷ more) more in
    let n = position_or_len is_double pairs in
    elim (byte == 58 && next == 58) as (λ b. option_map (around_double (byte ∷ next ∷ more))
    (cond (ltb (cond (not b) (1 + n) 0) (suc (length pairs))) (Some (cond (not b) (1 + n) 0)) None)
    ≡ cond b (Some ([], more)) (option_map (longer byte) (option_map (around_double (next ∷ more)) (cond (ltb n (length pairs)) (Some n) None)))) [
      | true ↦ ap (λ found. option_map (around_double (byte ∷ next ∷ more)) (cond found (Some 0) None)) (lt-ltb 0 (suc (length pairs)) (omega arith))
      | false ↦ ap (λ found. option_map (around_double (byte ∷ next ∷ more)) (cond found (Some (1 + n)) None)) (found_shift n (length pairs))
          ∙ around_shift n byte (next ∷ more) (ltb n (length pairs))
    ]

-- the two sides of `::` make up the text
abbrev pub Joins : List ℕ → Option (List ℕ × List ℕ) → Type 0
Joins text None = Unit {0}
Joins text (Some sides) = text ≡ sides.0 ++ (58 ∷ 58 ∷ sides.1)

two_colons : (byte : ℕ) (more : List ℕ) → (byte == 58 && begins more) ≡ true → byte ∷ more ≡ 58 ∷ 58 ∷ drop 1 more
two_colons byte [] is = absurd (true≢false (sym (and_parts (byte == 58) false is).1))
two_colons byte (next ∷ more) is =
    let both = and_parts (byte == 58) (next == 58) is in
    rw (eqb-true byte 58 both.0, eqb-true next 58 both.1)

longer_joins : (byte : ℕ) (more : List ℕ) (sides : Option (List ℕ × List ℕ)) → Joins more sides → Joins (byte ∷ more) (option_map (longer byte) sides)
longer_joins byte more None joins = tt
longer_joins byte more (Some sides) joins = ap (λ text. byte ∷ text) joins

joins_by_test : (byte : ℕ) (more : List ℕ) (here : Bool) → (byte == 58 && begins more) ≡ here → Joins more (cut_double more)
    → Joins (byte ∷ more) (cond here (Some ([], drop 1 more)) (option_map (longer byte) (cut_double more)))
joins_by_test byte more true is joins = two_colons byte more is
joins_by_test byte more false is joins = longer_joins byte more (cut_double more) joins

pub cut_double-joins : (text : List ℕ) → Joins text (cut_double text)
cut_double-joins [] = tt
cut_double-joins (byte ∷ more) = rw (cut_double-cons byte more) (joins_by_test byte more (byte == 58 && begins more) refl (cut_double-joins more))

-- more text before the `::`
abbrev pub after : List ℕ → List ℕ × List ℕ → List ℕ × List ℕ
after prefix sides = (prefix ++ sides.0, sides.1)

after_none : (sides : Option (List ℕ × List ℕ)) → sides ≡ option_map (after []) sides
after_none None = refl
after_none (Some sides) = refl

after_byte : (byte : ℕ) (prefix : List ℕ) (sides : Option (List ℕ × List ℕ))
    → option_map (longer byte) (option_map (after prefix) sides) ≡ option_map (after (byte ∷ prefix)) sides
after_byte byte prefix None = refl
after_byte byte prefix (Some sides) = refl

pub after_after : (prefix more : List ℕ) (sides : Option (List ℕ × List ℕ))
    → option_map (after prefix) (option_map (after more) sides) ≡ option_map (after (prefix ++ more)) sides
after_after prefix more None = refl
after_after prefix more (Some sides) = ap (λ text. Some (text, sides.1)) (sym (append_assoc prefix more sides.0))

-- bytes that are no colons
pub cut_double_lacks : (prefix text : List ℕ) → lacks 58 prefix ≡ true → cut_double (prefix ++ text) ≡ option_map (after prefix) (cut_double text)
cut_double_lacks [] text free = after_none (cut_double text)
cut_double_lacks (byte ∷ prefix) text free =
    let both = and_parts (not (byte == 58)) (lacks 58 prefix) free in
    rw (cut_double-cons byte (prefix ++ text), not-true (byte == 58) both.0, cut_double_lacks prefix text both.1)
    (after_byte byte prefix (cut_double text))

-- one colon
pub cut_double_one : (text : List ℕ) → begins text ≡ false → cut_double (58 ∷ text) ≡ option_map (after (58 ∷ [])) (cut_double text)
cut_double_one text single = rw (cut_double-cons 58 text, single) (ap (option_map (longer 58)) (after_none (cut_double text))
    ∙ after_byte 58 [] (cut_double text))

pub cut_double_here : (text : List ℕ) → cut_double (58 ∷ 58 ∷ text) ≡ Some ([], text)
cut_double_here text = cut_double-cons 58 (58 ∷ text)
