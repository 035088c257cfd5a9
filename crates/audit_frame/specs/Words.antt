-- The words of a command, counted from 1, the command being the first.
use Rattle.std.specs.Prelude.{ℕ, ◌==◌, List, length, Option, Some, None, Result, Ok, Err, if◌then◌else◌}
use Rattle.sel_text.specs.declared.fault.TextFault.{TextFault}
use Rattle.sel_text.specs.Number.{number_meaning}

-- A file that a word names: the number of the word, and the name.
pub record FileWord : Type 0 where
  pub word : ℕ
  pub name : List ℕ

-- The file of a word, which isn't empty.
abbrev pub file_in : ℕ → List ℕ → Option FileWord
file_in word name = if length name == 0 then None else Some (record { word = word; name = name })

-- A number that isn't 0.
abbrev pub positive : Result ℕ TextFault → Option ℕ
positive (Err fault) = None
positive (Ok n) = if n == 0 then None else Some n

-- The number from 1 to the most that a word writes.
unfoldable pub count_in : ℕ → List ℕ → Option ℕ
count_in most word = positive (number_meaning most word)

-- The most entries and pieces that LIMIT may allow in a direction.
abbrev pub most_limit : ℕ
most_limit = 200000
