-- The lines of a text.
use Rattle.std.specs.Prelude.{ℕ, List, [], ◌∷◌, ◌==◌, if◌then◌else◌}
use Rattle.std.specs.List.{before_first, after_first, onto_first}

-- the lines of a text, each with the LF that ends it; the last may end with the text instead
abbrev pub lines_of : List ℕ → List (List ℕ)
lines_of [] = []
lines_of (byte ∷ bytes) =
    if byte == 10 then (byte ∷ []) ∷ lines_of bytes else onto_first byte (lines_of bytes)

-- what a line has before its LF
abbrev pub before_feed : List ℕ → List ℕ
before_feed line = before_first (λ byte. byte == 10) line

-- what a text has behind the LF of its first line
abbrev pub behind_feed : List ℕ → List ℕ
behind_feed text = after_first (λ byte. byte == 10) text
