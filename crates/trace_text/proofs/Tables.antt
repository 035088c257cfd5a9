-- The table of a line is the rest of it from its third word on.
use Rattle.std.proofs.Common.{◌≡◌, ℕ, ◌-◌, List, [], ◌∷◌, ◌++◌, Bool, true, false, IsTrue, length, take, drop, reverse, refl, sym, subst, ap, ◌∙◌}
use Rattle.std.proofs.Common.{inl, inr, append_assoc, one-add, arith}
use Rattle.std.specs.Prelude.{◌≢◌, filter}
use Rattle.std.specs.List.{list_all, prefix_len, slice_split}
use Rattle.std.proofs.lemmas.Bool.{and_parts}
use Rattle.std.proofs.Math.Seq.{take-append_seam}
use Rattle.std.proofs.lemmas.List.{append-nil, drop-drop, length-drop, length-reverse, reverse-append, reverse-reverse, take-append-drop}
use Rattle.std.proofs.lemmas.List.Elements.{filter-append}
use Rattle.std.proofs.lemmas.List.Folds.{list_all-append}
use Rattle.trace_text.specs.Words.{is_space, is_word, words_of, behind_word, without_first_spaces, without_last_spaces, table_of}
use Rattle.trace_text.specs.inner.Reading.{word_len}
use Rattle.trace_text.proofs.Wording.{words_of-begun, words_of-first, is_begun, pieces-first, IsBegun}

-- What stands behind some bytes of a text.
pub record IsEnd (text rest : List ℕ) : Type 0 where
  pub before : List ℕ
  pub stands : text ≡ before ++ rest

drop-end : (n : ℕ) (text : List ℕ) → IsEnd text (drop n text)
drop-end n text = record { before = take n text; stands = sym (take-append-drop n text) }

end-end : (text more rest : List ℕ) → IsEnd text more → IsEnd more rest → IsEnd text rest
end-end text more rest outer inner = record {
  before = outer.before ++ inner.before;
  stands = outer.stands ∙ ap (λ tail. outer.before ++ tail) inner.stands ∙ sym (append_assoc outer.before inner.before rest);
}

behind-end : (text : List ℕ) → IsEnd text (behind_word text)
behind-end text = end-end text (without_first_spaces text) (behind_word text)
    (drop-end (prefix_len is_space text) text)
    (drop-end (word_len (without_first_spaces text)) (without_first_spaces text))

-- Behind the first word stand the others.
behind_by : (begun : List ℕ) → IsBegun begun → words_of (drop (word_len begun) begun) ≡ drop 1 (words_of begun)
behind_by begun (inl none) = rw none refl
behind_by begun (inr some) = rw (words_of-first begun some) refl

words-behind_word : (text : List ℕ) → words_of (behind_word text) ≡ drop 1 (words_of text)
words-behind_word text = behind_by (without_first_spaces text) (is_begun text) ∙ ap (drop 1) (words_of-begun text)

-- Spaces behind a text are of no word.
blanks : List ℕ → List (List ℕ)
blanks [] = []
blanks (byte ∷ bytes) = [] ∷ blanks bytes

blanks-split : (spaces : List ℕ) → list_all is_space spaces ≡ true → slice_split is_space spaces ≡ [] ∷ blanks spaces
unfolding blanks
blanks-split [] all = refl
blanks-split (byte ∷ bytes) all =
    let parts = and_parts (is_space byte) (list_all is_space bytes) all in
    rw parts.0 (ap (λ more. [] ∷ more) (blanks-split bytes parts.1))

filter-blanks : (spaces : List ℕ) → filter is_word (blanks spaces) ≡ []
unfolding blanks
filter-blanks [] = refl
filter-blanks (byte ∷ bytes) = filter-blanks bytes

split_by : (byte : ℕ) (bytes spaces : List ℕ) (test : Bool) → is_space byte ≡ test
    → slice_split is_space (bytes ++ spaces) ≡ slice_split is_space bytes ++ blanks spaces
    → slice_split is_space (byte ∷ (bytes ++ spaces)) ≡ slice_split is_space (byte ∷ bytes) ++ blanks spaces
split_by byte bytes spaces true is more = rw (is, more) refl
split_by byte bytes spaces false is more = rw (is, more, pieces-first bytes) refl

split-behind : (text spaces : List ℕ) → list_all is_space spaces ≡ true
    → slice_split is_space (text ++ spaces) ≡ slice_split is_space text ++ blanks spaces
split-behind [] spaces all = blanks-split spaces all
split-behind (byte ∷ bytes) spaces all = split_by byte bytes spaces (is_space byte) refl (split-behind bytes spaces all)

words_of-behind : (text spaces : List ℕ) → list_all is_space spaces ≡ true → words_of (text ++ spaces) ≡ words_of text
words_of-behind text spaces all =
    rw (split-behind text spaces all, filter-append, filter-blanks spaces) (append-nil (words_of text))

-- A text without the spaces that it begins with begins with none.
first_by : (byte : ℕ) (bytes rest : List ℕ) (test : Bool) → is_space byte ≡ test → (without_first_spaces bytes ≢ 32 ∷ rest)
    → without_first_spaces (byte ∷ bytes) ≢ 32 ∷ rest
first_by byte bytes rest true is more = rw (is, one-add) more
first_by byte bytes rest false is more = rw is (λ (begins : byte ∷ bytes ≡ 32 ∷ rest).
    let same : byte ≡ 32 = cc in
    let no : true ≡ false = rw same at is in cc)

no_first : (text rest : List ℕ) → without_first_spaces text ≢ 32 ∷ rest
no_first [] rest = λ is. cc
no_first (byte ∷ bytes) rest = first_by byte bytes rest (is_space byte) refl (no_first bytes rest)

-- A text without the spaces that it ends with stands before them, and ends with none.
record IsTrimmed (text kept : List ℕ) : Type 0 where
  after : List ℕ
  stands : text ≡ kept ++ after
  spaces : list_all is_space after ≡ true
  last : (rest : List ℕ) → kept ≢ rest ++ 32 ∷ []

spaces_by : (byte : ℕ) (bytes : List ℕ) (test : Bool) → is_space byte ≡ test
    → list_all is_space (take (prefix_len is_space bytes) bytes) ≡ true
    → list_all is_space (take (prefix_len is_space (byte ∷ bytes)) (byte ∷ bytes)) ≡ true
spaces_by byte bytes true is more = rw (is, one-add, is) more
spaces_by byte bytes false is more = rw is refl

first_spaces : (text : List ℕ) → list_all is_space (take (prefix_len is_space text) text) ≡ true
first_spaces [] = refl
first_spaces (byte ∷ bytes) = spaces_by byte bytes (is_space byte) refl (first_spaces bytes)

spaces-reverse : (spaces : List ℕ) → list_all is_space spaces ≡ true → list_all is_space (reverse spaces) ≡ true
spaces-reverse [] all = refl
spaces-reverse (byte ∷ bytes) all =
    let parts = and_parts (is_space byte) (list_all is_space bytes) all in
    rw (reverse-append (byte ∷ []) bytes, list_all-append is_space (reverse bytes) (byte ∷ []), spaces-reverse bytes parts.1, parts.0) refl

trimmed : (text : List ℕ) → IsTrimmed text (without_last_spaces text)
trimmed text =
    let turned = reverse text in
    let count : ℕ = prefix_len is_space turned in
    let kept : List ℕ = reverse (drop count turned) in
    let after : List ℕ = reverse (take count turned) in
    let stands : text ≡ kept ++ after =
    sym (reverse-reverse text) ∙ ap reverse (sym (take-append-drop count turned)) ∙ reverse-append (take count turned) (drop count turned) in
    let len : length text - count ≡ length kept =
    omega (arith, length-reverse (drop count turned), length-drop count turned, length-reverse text) in
    let is : take (length text - count) text ≡ kept = rw len (subst (λ t. take (length kept) t ≡ kept) (sym stands) (take-append_seam kept after)) in
    rw is record {
      after = after;
      stands = stands;
      spaces = spaces-reverse (take count turned) (first_spaces turned);
      last = λ rest ends. no_first turned (reverse rest)
          (sym (reverse-reverse (drop count turned)) ∙ ap reverse ends ∙ reverse-append rest (32 ∷ []));
    }

pub words_of-table : (text : List ℕ) → words_of (table_of text) ≡ drop 2 (words_of text)
words_of-table text =
    let rest = behind_word (behind_word text) in
    let begun = without_first_spaces rest in
    let end = trimmed begun in
    sym (words_of-behind (table_of text) end.after end.spaces) ∙ ap words_of (sym end.stands) ∙ words_of-begun rest
    ∙ words-behind_word (behind_word text) ∙ ap (drop 1) (words-behind_word text) ∙ drop-drop 1 1 (words_of text)

pub table-place : (text : List ℕ)
    → (before : List ℕ) × (after : List ℕ) × (text ≡ before ++ (table_of text ++ after)) × IsTrue (list_all is_space after)
table-place text =
    let rest = behind_word (behind_word text) in
    let begun = without_first_spaces rest in
    let end = trimmed begun in
    let stands = end-end text rest begun (end-end text (behind_word text) rest (behind-end text) (behind-end (behind_word text)))
    (drop-end (prefix_len is_space rest) rest) in
    (stands.before, end.after, stands.stands ∙ ap (λ tail. stands.before ++ tail) end.stands, end.spaces)

pub table-first : (text rest : List ℕ) → table_of text ≢ 32 ∷ rest
table-first text rest begins =
    let behind = behind_word (behind_word text) in
    let end = trimmed (without_first_spaces behind) in
    no_first behind (rest ++ end.after) (end.stands ∙ ap (λ kept. kept ++ end.after) begins)

pub table-last : (text rest : List ℕ) → table_of text ≢ rest ++ 32 ∷ []
table-last text = (trimmed (without_first_spaces (behind_word (behind_word text)))).last
