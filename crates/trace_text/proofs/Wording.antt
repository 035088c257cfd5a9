-- How a text is cut into its words.
use Rattle.std.proofs.Common.{◌≡◌, ℕ, ◌<◌, List, [], ◌∷◌, Bool, true, false, nat_eq, length, take, drop, refl, sym, ap, ◌∙◌, ◌⊎◌, inl, inr, one-add}
use Rattle.std.proofs.Common.{arith}
use Rattle.std.specs.Prelude.{filter}
use Rattle.std.specs.List.{slice_split}
use Rattle.std.proofs.lemmas.List.{length-take}
use Rattle.std.proofs.lemmas.Bool.Decides.{nat_tests}
use Rattle.trace_text.specs.inner.Reading.{BeginsWord, word_len}
use Rattle.trace_text.specs.Words.{is_space, is_word, words_of, without_first_spaces}
use Rattle.sel_text.proofs.FirstPlaces.{position_or_len-le-length}

begun-byte : (byte : ℕ) (bytes : List ℕ) (test : Bool) → is_space byte ≡ test → words_of (without_first_spaces bytes) ≡ words_of bytes
    → words_of (without_first_spaces (byte ∷ bytes)) ≡ words_of (byte ∷ bytes)
begun-byte byte bytes true is more = rw (is, one-add) more
begun-byte byte bytes false is more = rw (is, is) refl

-- Spaces before a text are of no word.
pub words_of-begun : (text : List ℕ) → words_of (without_first_spaces text) ≡ words_of text
words_of-begun [] = refl
words_of-begun (byte ∷ bytes) = begun-byte byte bytes (is_space byte) refl (words_of-begun bytes)

-- No word is left, or the first one begins here.
abbrev pub IsBegun : List ℕ → Type 0
IsBegun begun = (begun ≡ []) ⊎ (0 < word_len begun)

begun_by : (byte : ℕ) (bytes : List ℕ) (test : Bool) → is_space byte ≡ test → IsBegun (without_first_spaces bytes)
    → IsBegun (without_first_spaces (byte ∷ bytes))
begun_by byte bytes true is more = rw (is, one-add) more
begun_by byte bytes false is more = rw (is, is) (inr (omega arith))

pub is_begun : (text : List ℕ) → IsBegun (without_first_spaces text)
is_begun [] = inl refl
is_begun (byte ∷ bytes) = begun_by byte bytes (is_space byte) refl (is_begun bytes)

-- The pieces behind the space that ends the first piece.
abbrev pub pieces_behind : List ℕ → List (List ℕ)
pieces_behind [] = []
pieces_behind (space ∷ bytes) = slice_split is_space bytes

first_by : (byte : ℕ) (bytes : List ℕ) (test : Bool) → is_space byte ≡ test
    → slice_split is_space bytes ≡ take (word_len bytes) bytes ∷ pieces_behind (drop (word_len bytes) bytes)
    → slice_split is_space (byte ∷ bytes) ≡ take (word_len (byte ∷ bytes)) (byte ∷ bytes) ∷ pieces_behind (drop (word_len (byte ∷ bytes)) (byte ∷ bytes))
first_by byte bytes true is more = rw is refl
first_by byte bytes false is more = rw (is, one-add) (rw more refl)

pub pieces-first : (text : List ℕ) → slice_split is_space text ≡ take (word_len text) text ∷ pieces_behind (drop (word_len text) text)
pieces-first [] = refl
pieces-first (byte ∷ bytes) = first_by byte bytes (is_space byte) refl (pieces-first bytes)

behind_by : (byte : ℕ) (bytes : List ℕ) (test : Bool) → is_space byte ≡ test
    → words_of (drop (word_len bytes) bytes) ≡ filter is_word (pieces_behind (drop (word_len bytes) bytes))
    → words_of (drop (word_len (byte ∷ bytes)) (byte ∷ bytes)) ≡ filter is_word (pieces_behind (drop (word_len (byte ∷ bytes)) (byte ∷ bytes)))
behind_by byte bytes true is more = rw (is, is) refl
behind_by byte bytes false is more = rw (is, one-add) more

words-behind : (text : List ℕ) → words_of (drop (word_len text) text) ≡ filter is_word (pieces_behind (drop (word_len text) text))
words-behind [] = refl
words-behind (byte ∷ bytes) = behind_by byte bytes (is_space byte) refl (words-behind bytes)

-- A text that begins with a word has that word first, and then those behind it.
pub words_of-first : (text : List ℕ) → 0 < word_len text → words_of text ≡ take (word_len text) text ∷ words_of (drop (word_len text) text)
words_of-first text begins =
    let some : nat_eq (length (take (word_len text) text)) 0 ≡ false = grind (arith, nat_tests, length-take, position_or_len-le-length is_space text) in
    rw (pieces-first text, some, ← words-behind text) refl

no_length : (text : List ℕ) → nat_eq (length text) 0 ≡ true → text ≡ []
no_length [] none = refl
no_length (byte ∷ bytes) none = absurd (grind (arith, nat_tests))

pub words_of-none : (text begun : List ℕ) → begun ≡ without_first_spaces text → nat_eq (length begun) 0 ≡ true → words_of text ≡ []
words_of-none text begun is none = rw (← words_of-begun text, ← is, no_length begun none) refl

some_word : (begun : List ℕ) → nat_eq (length begun) 0 ≡ false → IsBegun begun → 0 < word_len begun
some_word begun filled (inl none) = absurd (let empty : length begun ≡ 0 = ap length none in grind (arith, nat_tests))
some_word begun filled (inr some) = some

pub begins_word : (text begun : List ℕ) → begun ≡ without_first_spaces text → nat_eq (length begun) 0 ≡ false → BeginsWord text begun
begins_word text begun is filled =
    let some : 0 < word_len begun = some_word begun filled (rw is (is_begun text)) in
    record { begun_is = is; some = some; words = sym (words_of-begun text) ∙ rw (← is) (words_of-first begun some) }
