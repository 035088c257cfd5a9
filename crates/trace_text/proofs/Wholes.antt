-- The words of a line make it up, but for its spaces.
use Rattle.std.proofs.Common.{◌≡◌, ℕ, List, [], ◌∷◌, ◌++◌, Bool, true, false, not, nat_eq, length, refl, ap, ◌∙◌, arith}
use Rattle.std.specs.Prelude.{filter}
use Rattle.std.specs.List.{concat, slice_split}
use Rattle.std.proofs.lemmas.Bool.Decides.{nat_tests}
use Rattle.sel_text.proofs.Lines.{concat-onto_first}
use Rattle.trace_text.specs.Words.{is_space, is_word, words_of}

-- A text without its spaces.
abbrev spaceless : List ℕ → List ℕ
spaceless text = filter (λ byte. not (is_space byte)) text

pieces_by : (byte : ℕ) (bytes : List ℕ) (test : Bool) → is_space byte ≡ test → concat (slice_split is_space bytes) ≡ spaceless bytes
    → concat (slice_split is_space (byte ∷ bytes)) ≡ spaceless (byte ∷ bytes)
pieces_by byte bytes true is more = rw is more
pieces_by byte bytes false is more = rw is (concat-onto_first byte (slice_split is_space bytes) ∙ ap (λ rest. byte ∷ rest) more)

concat-pieces : (text : List ℕ) → concat (slice_split is_space text) ≡ spaceless text
concat-pieces [] = refl
concat-pieces (byte ∷ bytes) = pieces_by byte bytes (is_space byte) refl (concat-pieces bytes)

-- Empty pieces add nothing.
concat-filter : (pieces : List (List ℕ)) → concat (filter is_word pieces) ≡ concat pieces
concat-filter [] = refl
concat-filter ([] ∷ pieces) = concat-filter pieces
concat-filter ((byte ∷ bytes) ∷ pieces) =
    let some : nat_eq (length (byte ∷ bytes)) 0 ≡ false = grind (arith, nat_tests) in
    rw some (ap (λ rest. byte ∷ (bytes ++ rest)) (concat-filter pieces))

pub concat-words_of : (text : List ℕ) → concat (words_of text) ≡ spaceless text
concat-words_of text = concat-filter (slice_split is_space text) ∙ concat-pieces text
