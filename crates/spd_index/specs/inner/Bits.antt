-- Bits of a list of words.
use Rattle.std.specs.Prelude.{◌≡◌, ℕ, List, length, slice_index}
use Rattle.std.specs.Int.{bit_at}

-- The bit of a word is set.
abbrev pub HasBit : List ℕ → ℕ → ℕ → Type 0
HasBit words at bit = bit_at (slice_index words at) bit ≡ 1

-- There are as many words, and each bit that was set is set.
pub record KeepsBits (old new : List ℕ) : Type 0 where
  pub as_many : length new ≡ length old
  pub bits : (at bit : ℕ) → HasBit old at bit → HasBit new at bit
