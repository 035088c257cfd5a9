-- The words of a line. Only spaces part them: a tab, or a CR that isn't set aside, is part of a
-- word.
use Rattle.std.specs.Prelude.{ℕ, ◌-◌, Bool, not, ◌==◌, List, length, take, drop, filter}
use Rattle.std.specs.List.{slice_split, prefix_len, position_or_len, suffix_len}

abbrev pub is_space : ℕ → Bool
is_space byte = byte == 32

abbrev pub is_word : List ℕ → Bool
is_word piece = not (length piece == 0)

-- The words of a line: what stands between its spaces, the empty pieces left out.
abbrev pub words_of : List ℕ → List (List ℕ)
words_of text = filter is_word (slice_split is_space text)

-- A text without the spaces that it begins with.
abbrev pub without_first_spaces : List ℕ → List ℕ
without_first_spaces text = drop (prefix_len is_space text) text

-- A text without the spaces that it ends with.
abbrev pub without_last_spaces : List ℕ → List ℕ
without_last_spaces text = take (length text - suffix_len is_space text) text

-- What stands behind the first word.
abbrev pub behind_word : List ℕ → List ℕ
behind_word text =
    let begun = without_first_spaces text in drop (position_or_len is_space begun) begun

-- The rest of a line from its third word on, as it stands, without the spaces at its end.
abbrev pub table_of : List ℕ → List ℕ
table_of text = without_last_spaces (without_first_spaces (behind_word (behind_word text)))
