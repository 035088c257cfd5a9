-- What steps of the reader give.
use Rattle.std.specs.Prelude.{◌≡◌, ℕ, ◌<◌, List, ◌∷◌, take, drop, Result, Ok}
use Rattle.std.specs.List.{position_or_len}
use Rattle.trace_text.specs.declared.fault.EventFault.{EventFault}
use Rattle.trace_text.specs.Trace.{WordsLeft, where_none}
use Rattle.trace_text.specs.Words.{is_space, words_of, behind_word, without_first_spaces, without_last_spaces}

-- The words of the text that is left.
abbrev pub words_left : ℕ → List ℕ → WordsLeft
words_left number text = record { number = number; words = words_of text }

-- Nothing, where no word is left.
abbrev pub ended : ℕ → List (List ℕ) → Result (Unit {0}) EventFault
ended number words = where_none number words (Ok tt)

-- How many bytes stand before the first space.
abbrev pub word_len : List ℕ → ℕ
word_len text = position_or_len is_space text

-- What a text has from its next word on, and the words of both.
pub record BeginsWord (text begun : List ℕ) : Type 0 where
  pub begun_is : begun ≡ without_first_spaces text
  pub some : 0 < word_len begun
  pub words : words_of text ≡ take (word_len begun) begun ∷ words_of (drop (word_len begun) begun)

-- The table of a text whose next word is a place.
abbrev pub table_behind : List ℕ → List ℕ
table_behind text = without_last_spaces (without_first_spaces (behind_word text))
