-- Which lines stand in which parts of an axis.
use Rattle.std.specs.Prelude.{◌≡◌, ℕ, ◌+◌, ◌*◌, ◌/◌, ◌%◌, ◌≤◌, Bool, true, false, nat_le, List, length, slice_index}
use Rattle.std.specs.Int.{bit_at}
use Rattle.std.specs.Int.RustNames.{bit_or}
use Rattle.std.specs.List.Sorted.{IsPartitionPoint}
use Rattle.spd_index.specs.declared.rows.Rows.{Rows}
use Rattle.spd_index.specs.inner.Bits.{HasBit, KeepsBits}

-- The address lies in the part of that number: so many parts start at it or before it, and no other does.
pub record IsPart (starts : List ℕ) (address part : ℕ) : Type 0 where
  pub within : part ≤ length starts
  pub between : IsPartitionPoint (λ start. nat_le start address ≡ true) (λ start. nat_le start address ≡ false) starts part

-- The line, counted from 0, has its bit in a row.
abbrev pub IsSet : Rows → ℕ → ℕ → Type 0
IsSet rows row line = HasBit rows.words.items (row * rows.width + line / 64) (line % 64)

-- The row of the block of 64 parts that has the part: behind the rows of all parts.
abbrev pub block_row : Rows → ℕ → ℕ
block_row rows part = length rows.starts.items + 1 + part / 64

-- A word of a row, and of a part: the word of its own row, and that of its block.
abbrev pub row_word : Rows → ℕ → ℕ → ℕ
row_word rows row word = slice_index rows.words.items (row * rows.width + word)

abbrev pub word_of : Rows → ℕ → ℕ → ℕ
word_of rows part word = bit_or (row_word rows part word) (row_word rows (block_row rows part) word)

-- The line stands in the part.
abbrev pub StandsIn : Rows → ℕ → ℕ → Type 0
StandsIn rows part line = bit_at (word_of rows part (line / 64)) (line % 64) ≡ 1

-- It stands in each part in which an address lies that passes the test.
abbrev pub StandsWhere : (ℕ → Bool) → Rows → ℕ → Type 0
StandsWhere test rows line = (address part : ℕ) → test address ≡ true → IsPart rows.starts.items address part → StandsIn rows part line

-- No line was taken out of a row, and all else is as it was.
pub record Keeps (old new : Rows) : Type 0 where
  pub starts : new.starts.items ≡ old.starts.items
  pub width : new.width ≡ old.width
  pub bits : KeepsBits old.words.items new.words.items
