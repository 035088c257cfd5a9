-- How a bit is set, and how two words are joined.
use Rattle.std.proofs.Common.{◌≡◌, ℕ, ◌*◌, ◌%◌, ◌^◌, ◌<◌, List, get_or, length, max, slice_index_or, slice_set, w64, inl, inr, ◌⊎◌, sym, ◌∙◌, arith}
use Rattle.std.specs.Int.{bit_at}
use Rattle.std.specs.Int.RustNames.{bit_or}
use Rattle.std.proofs.lemmas.Bool.{cases_eq}
use Rattle.std.proofs.lemmas.List.{get_or-set_same, get_or-set_other, length-set}
use Rattle.std.proofs.lemmas.Nat.Bits.{bit_at-lt, bit_at_or, bit_at_set_same}
use Rattle.spd_index.specs.inner.Bits.{HasBit, KeepsBits}

-- A bit of either word is one of both joined.
pub bit_at_or-left : (a b i : ℕ) → bit_at a i ≡ 1 → bit_at (bit_or a b) i ≡ 1
bit_at_or-left a b i is =
    let low = bit_at-lt b i in
    let joined = bit_at_or a b i in
    omega arith

pub bit_at_or-right : (a b i : ℕ) → bit_at b i ≡ 1 → bit_at (bit_or a b) i ≡ 1
bit_at_or-right a b i is =
    let low = bit_at-lt a i in
    let joined = bit_at_or a b i in
    omega arith

-- And there is no other.
pub bit_at_or-either : (a b i : ℕ) → bit_at (bit_or a b) i ≡ 1 → (bit_at a i ≡ 1) ⊎ (bit_at b i ≡ 1)
bit_at_or-either a b i is = go (bit_at a i) (bit_at b i) (bit_at-lt a i) (sym (bit_at_or a b i) ∙ is)
  where
    go : (x y : ℕ) → x < 2 → max x y ≡ 1 → (x ≡ 1) ⊎ (y ≡ 1)
    go x y low most = elim (cases_eq x 1) [ inl e ↦ inl e | inr other ↦ inr (omega arith) ]

-- The word with the bit.
abbrev pub with_bit : ℕ → ℕ → ℕ
with_bit word bit = bit_or word (1 * 2 ^ bit % 2 ^ 64)

pub HasBit-set : (words : List ℕ) (at bit : ℕ) → at < length words → bit < 64 → HasBit (slice_set words at (with_bit (slice_index_or words at 0) bit)) at bit
HasBit-set words at bit within low =
    rw (get_or-set_same words at (with_bit (get_or words at 0) bit) 0 within) (bit_at_set_same w64 (get_or words at 0) bit low)

pub KeepsBits-set : (words : List ℕ) (at bit : ℕ) → at < length words → KeepsBits words (slice_set words at (with_bit (slice_index_or words at 0) bit))
KeepsBits-set words at bit within = record {
  as_many = length-set words at (with_bit (get_or words at 0) bit);
  bits = λ i b is. elim (cases_eq i at) [
    | inl same ↦ kept i b is same
    | inr other ↦ rw (get_or-set_other words at i (with_bit (get_or words at 0) bit) 0 other) is
  ];
}
  where
    kept : (i b : ℕ) → HasBit words i b → i ≡ at → HasBit (slice_set words at (with_bit (slice_index_or words at 0) bit)) i b
    kept i b is same =
        rw (same, get_or-set_same words at (with_bit (get_or words at 0) bit) 0 within)
        (bit_at_or-left (get_or words at 0) (1 * 2 ^ bit % 2 ^ 64) b (rw same at is))
