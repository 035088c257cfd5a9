-- Cutting a text at its first separator, and at all of them.
use Rattle.std.proofs.Common.{◌≡◌, ℕ, suc, ◌+◌, Bool, true, false, not, cond, ltb, ◌==◌, List, [], ◌∷◌, ◌++◌, length, refl, sym, ap, ◌∙◌, Option, Some, None}
use Rattle.std.proofs.Common.{option_map, add-one, one-add, arith}
use Rattle.std.specs.List.{position_or_len, list_all, onto_first}
use Rattle.std.proofs.lemmas.Bool.{and_parts, and_from, not_from_false, not-true, ne_eqb, lt-ltb, eq-eqb, true≢false}
use Rattle.std.proofs.lemmas.Bool.Decides.{nat_tests}
use Rattle.sel_text.specs.Parts.{around, cut, parts}

-- a byte more before the separator
abbrev pub longer : ℕ → List ℕ × List ℕ → List ℕ × List ℕ
longer byte sides = (byte ∷ sides.0, sides.1)

-- a place found in the rest of a text lies one further in the text
around_shift : (n byte : ℕ) (more : List ℕ) (found : Bool)
    → option_map (around (byte ∷ more)) (cond found (Some (1 + n)) None) ≡ option_map (longer byte) (option_map (around more) (cond found (Some n) None))
around_shift n byte more false = refl
around_shift n byte more true = rw (one-add, add-one, add-one)

-- what a search gives that found its place after n bytes, among more
abbrev found_after : ℕ → List ℕ → Option ℕ
found_after n text = cond (ltb n (length text)) (Some n) None

pub found_shift : (n m : ℕ) → ltb (1 + n) (suc m) ≡ ltb n m
found_shift n m = grind (arith, nat_tests)

-- by the first byte
pub cut-cons : (separator byte : ℕ) (more : List ℕ)
    → cut separator (byte ∷ more) ≡ cond (byte == separator) (Some ([], more)) (option_map (longer byte) (cut separator more))
cut-cons separator byte more =
    let n = position_or_len (λ x. x == separator) more in
    elim (byte == separator) as (λ b. option_map (around (byte ∷ more)) (found_after (cond (not b) (1 + n) 0) (byte ∷ more))
    ≡ cond b (Some ([], more)) (option_map (longer byte) (option_map (around more) (found_after n more)))) [
      | true ↦ ap (λ found. option_map (around (byte ∷ more)) (cond found (Some 0) None)) (lt-ltb 0 (suc (length more)) (omega arith))
      | false ↦ ap (λ found. option_map (around (byte ∷ more)) (cond found (Some (1 + n)) None)) (found_shift n (length more))
          ∙ around_shift n byte more (ltb n (length more))
    ]

-- the bytes are no separators
abbrev pub lacks : ℕ → List ℕ → Bool
lacks separator bytes = list_all (λ byte. not (byte == separator)) bytes

-- bytes that pass a test that the separator fails
pub tests_lack : (test : ℕ → Bool) (separator : ℕ) (bytes : List ℕ) → test separator ≡ false → list_all test bytes ≡ true → lacks separator bytes ≡ true
tests_lack test separator [] fails all = refl
tests_lack test separator (byte ∷ more) fails all =
    let both = and_parts (test byte) (list_all test more) all in
    and_from (not (byte == separator)) (lacks separator more)
    (not_from_false (byte == separator) (ne_eqb byte separator (λ same. true≢false (sym both.0 ∙ ap test same ∙ fails))))
    (tests_lack test separator more fails both.1)

pub cut_at : (separator : ℕ) (prefix back : List ℕ) → lacks separator prefix ≡ true → cut separator (prefix ++ separator ∷ back) ≡ Some (prefix, back)
cut_at separator [] back free = rw (cut-cons, eq-eqb separator separator refl)
cut_at separator (byte ∷ prefix) back free =
    let other = not-true (byte == separator) (and_parts (not (byte == separator)) (lacks separator prefix) free).0 in
    rw (cut-cons, other, cut_at separator prefix back (and_parts (not (byte == separator)) (lacks separator prefix) free).1)

pub cut_none : (separator : ℕ) (text : List ℕ) → lacks separator text ≡ true → cut separator text ≡ None
cut_none separator [] free = refl
cut_none separator (byte ∷ more) free =
    let other = not-true (byte == separator) (and_parts (not (byte == separator)) (lacks separator more) free).0 in
    rw (cut-cons, other, cut_none separator more (and_parts (not (byte == separator)) (lacks separator more) free).1)

-- the parts of a text by its first separator
abbrev pub parts_from : ℕ → List ℕ → Option (List ℕ × List ℕ) → List (List ℕ)
parts_from separator text None = text ∷ []
parts_from separator text (Some sides) = sides.0 ∷ parts separator sides.1

parts_from_longer : (separator byte : ℕ) (more : List ℕ) (sides : Option (List ℕ × List ℕ))
    → onto_first byte (parts_from separator more sides) ≡ parts_from separator (byte ∷ more) (option_map (longer byte) sides)
parts_from_longer separator byte more None = refl
parts_from_longer separator byte more (Some sides) = refl

pub parts-cut : (separator : ℕ) (text : List ℕ) → parts separator text ≡ parts_from separator text (cut separator text)
parts-cut separator [] = refl
parts-cut separator (byte ∷ more) =
    rw (cut-cons)
    (elim (byte == separator) as (λ b. cond b ([] ∷ parts separator more) (onto_first byte (parts separator more))
    ≡ parts_from separator (byte ∷ more) (cond b (Some ([], more)) (option_map (longer byte) (cut separator more)))) [
      | true ↦ refl
      | false ↦ ap (onto_first byte) (parts-cut separator more) ∙ parts_from_longer separator byte more (cut separator more)
    ])
