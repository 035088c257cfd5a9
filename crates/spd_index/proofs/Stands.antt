-- How lines come to stand in parts, and stay there.
use Rattle.std.proofs.Common.{◌≡◌, ℕ, ◌+◌, ◌*◌, ◌/◌, ◌%◌, ◌<◌, ◌≤◌, Bool, List, length, inl, inr, refl, ◌∙◌, arith}
use Rattle.std.specs.List.{list_any}
use Rattle.sel_text.specs.declared.family.Family.{Family}
use Rattle.sel_text.specs.declared.item.AddressItem.{AddressItem}
use Rattle.spd_line.specs.declared.line.LineParts.{LineParts}
use Rattle.spd_line.specs.Selects.{address_has}
use Rattle.spd_index.specs.declared.ends.Side.{Side}
use Rattle.spd_index.specs.declared.rows.Rows.{Rows}
use Rattle.spd_index.specs.inner.Ends.{items_of}
use Rattle.spd_index.specs.inner.Rows.{IsSet, Keeps, row_word, StandsIn, StandsWhere}
use Rattle.spd_index.proofs.WordBits.{bit_at_or-either, bit_at_or-left, bit_at_or-right}

-- A line stands in a part by the part's row, or by that of its block.
pub StandsIn-part : (rows : Rows) (part line : ℕ) → IsSet rows part line → StandsIn rows part line
StandsIn-part rows part line set =
    bit_at_or-left (row_word rows part (line / 64)) (row_word rows (length rows.starts.items + 1 + part / 64) (line / 64)) (line % 64) set

pub StandsIn-block : (rows : Rows) (block part line : ℕ) → part / 64 ≡ block → IsSet rows (length rows.starts.items + 1 + block) line → StandsIn rows part line
StandsIn-block rows block part line same set =
    rw same
    (bit_at_or-right (row_word rows part (line / 64)) (row_word rows (length rows.starts.items + 1 + block) (line / 64)) (line % 64) set)

-- The parts of a block, by its first.
pub same_block : (part next : ℕ) → part % 64 ≡ 0 → part ≤ next → next < part + 64 → next / 64 ≡ part / 64
same_block part next whole low high = omega arith

-- A line that stands in a row, or in a part, goes on to stand there.
pub IsSet-kept : (old new : Rows) (row line : ℕ) → Keeps old new → IsSet old row line → IsSet new row line
IsSet-kept old new row line keeps set =
    rw keeps.width (keeps.bits.bits (row * old.width + line / 64) (line % 64) set)

pub StandsIn-kept : (old new : Rows) (part line : ℕ) → Keeps old new → StandsIn old part line → StandsIn new part line
StandsIn-kept old new part line keeps stands =
    elim (bit_at_or-either (row_word old part (line / 64)) (row_word old (length old.starts.items + 1 + part / 64) (line / 64)) (line % 64) stands) [
      | inl own ↦ StandsIn-part new part line (IsSet-kept old new part line keeps own)
      | inr shared ↦
          StandsIn-block new (part / 64) part line refl
          (rw keeps.starts (IsSet-kept old new (length old.starts.items + 1 + part / 64) line keeps shared))
    ]

pub StandsWhere-kept : (test : ℕ → Bool) (old new : Rows) (line : ℕ) → Keeps old new → StandsWhere test old line → StandsWhere test new line
StandsWhere-kept test old new line keeps stands = λ address part passes is.
    StandsIn-kept old new part line keeps (stands address part passes (rw keeps.starts at is))

-- Nothing is taken out by one step after another.
pub Keeps-trans : (a b c : Rows) → Keeps a b → Keeps b c → Keeps a c
Keeps-trans a b c first second = record {
  starts = second.starts ∙ first.starts;
  width = second.width ∙ first.width;
  bits = record {
    as_many = second.bits.as_many ∙ first.bits.as_many;
    bits = λ at bit is. second.bits.bits at bit (first.bits.bits at bit is);
  };
}

-- The same of equal items and an equal place.
pub StandsWhere-same : (family : Family) (side : Side) (rows : Rows) (items : List AddressItem) (line found : LineParts) (j k : ℕ) →
    items ≡ items_of side found → found ≡ line → j ≡ k → StandsWhere (λ a. list_any (address_has family a) items) rows j →
    StandsWhere (λ a. list_any (address_has family a) (items_of side line)) rows k
StandsWhere-same family side rows items line found j k items_are same_line same_place stands = λ address part has is.
    rw (← same_place) (stands address part (rw (items_are, same_line) has) is)
