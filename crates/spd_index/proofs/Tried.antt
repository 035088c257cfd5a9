-- Which of a word's lines are left to try.
use Rattle.std.proofs.Common.{◌≡◌, ℕ, ◌+◌, ◌-◌, ◌*◌, ◌%◌, ◌^◌, ◌<◌, ◌≤◌, Bool, true, false, cond, List, Option, Some, None}
use Rattle.std.proofs.Common.{w64, bit_and, inl, inr, refl, sym, ◌∙◌, arith, add-one}
use Rattle.std.specs.Prelude.{option_and_then, slice_get}
use Rattle.std.specs.Int.{bit_at, bit_not}
use Rattle.std.proofs.lemmas.Bool.{cases_Bool, cases_eq, cases_lt}
use Rattle.std.proofs.lemmas.Nat.{and_le_l}
use Rattle.std.proofs.lemmas.Nat.Bits.{bit_at_clear_other, bit_at_clear_same, bit_at-zero}
use Rattle.sel_box.specs.declared.packet.Direction.{Direction}
use Rattle.sel_box.specs.Point.{PointFields}
use Rattle.spd_line.specs.declared.judgement.Judgement.{Judgement}
use Rattle.spd_line.specs.declared.line.LineParts.{LineParts}
use Rattle.spd_line.specs.First.{line_at}
use Rattle.spd_line.specs.Judged.{judged}
use Rattle.spd_line.specs.Selects.{selects}
use Rattle.spd_index.specs.inner.Missed.{AreInWord, IsMissed, judged_where_selected}

-- The line behind an index, where it gave a judgement, selects the point.
pub record IsFound (d : Direction) (x : PointFields) (lines : List LineParts) (k : ℕ) (judgement : Judgement) : Type 0 where
  pub line : LineParts
  pub at : slice_get lines k ≡ Some line
  pub hit : selects d x line ≡ true
  pub judged_is : judged d x line ≡ judgement

pub IsFound-from_judged : (d : Direction) (x : PointFields) (lines : List LineParts) (k : ℕ) (judgement : Judgement) →
    option_and_then (judged_where_selected d x) (line_at lines (k + 1)) ≡ Some judgement → IsFound d x lines k judgement
IsFound-from_judged d x lines k judgement is = go (slice_get lines k) refl (rw add-one at is)
  where
    by_test : (line : LineParts) → slice_get lines k ≡ Some line → (hit : Bool) → selects d x line ≡ hit →
        cond hit (Some (judged d x line)) None ≡ Some judgement → IsFound d x lines k judgement
    by_test line at true hit some = record { line = line; at = at; hit = hit; judged_is = cc }
    by_test line at false hit some = cc

    go : (found : Option LineParts) → slice_get lines k ≡ found →
        option_and_then (judged_where_selected d x) found ≡ Some judgement → IsFound d x lines k judgement
    go None at some = cc
    go (Some line) at some = by_test line at (selects d x line) refl some

-- Where it gave none, it doesn't.
pub missed_from_judged : (d : Direction) (x : PointFields) (lines : List LineParts) (k : ℕ) (line : LineParts) →
    option_and_then (judged_where_selected d x) (line_at lines (k + 1)) ≡ None → slice_get lines k ≡ Some line → selects d x line ≡ false
missed_from_judged d x lines k line is at = go (selects d x line) (rw at at (rw add-one at is))
  where
    go : (hit : Bool) → cond hit (Some (judged d x line)) None ≡ None → hit ≡ false
    go true none = cc
    go false none = refl

-- A line of the word without a bit doesn't select the point.
no_bit : (d : Direction) (x : PointFields) (lines : List LineParts) (word left bit : ℕ) (line : LineParts) → AreInWord d x lines word left → bit < 64 →
    bit_at left bit ≡ 0 → slice_get lines (64 * word + bit) ≡ Some line → selects d x line ≡ false
no_bit d x lines word left bit line in_word low none at = elim (cases_Bool (selects d x line)) [
  | inl hit ↦ absurd (let set = in_word bit line low at hit in omega arith)
  | inr missed ↦ missed
]

-- Below the lowest bit no line does.
pub IsMissed-below : (d : Direction) (x : PointFields) (lines : List LineParts) (word left bit : ℕ) →
    IsMissed d x lines (64 * word) → AreInWord d x lines word left → bit ≤ 64 → ((i : ℕ) → i < bit → bit_at left i ≡ 0) → IsMissed d x lines (64 * word + bit)
IsMissed-below d x lines word left bit before in_word within none = λ k line low at. elim (cases_lt k (64 * word)) [
  | inl early ↦ before k line early at
  | inr late ↦
      let same : 64 * word + (k - 64 * word) ≡ k = omega arith in
      no_bit d x lines word left (k - 64 * word) line in_word (omega arith) (none (k - 64 * word) (omega arith)) (rw same at)
]

pub IsMissed-all : (d : Direction) (x : PointFields) (lines : List LineParts) (word left : ℕ) → IsMissed d x lines (64 * word) → AreInWord d x lines word left →
    left ≡ 0 → IsMissed d x lines (64 * word + 64)
IsMissed-all d x lines word left before in_word zero =
    IsMissed-below d x lines word left 64 before in_word (omega arith) (λ i low. rw zero (bit_at-zero i))

-- Without the bit of a line that doesn't select the point.
abbrev pub without_bit : ℕ → ℕ → ℕ
without_bit left bit = bit_and left (bit_not w64 (1 * 2 ^ bit % 2 ^ 64))

pub AreInWord-without : (d : Direction) (x : PointFields) (lines : List LineParts) (word left bit : ℕ) → AreInWord d x lines word left → bit < 64 →
    ((line : LineParts) → slice_get lines (64 * word + bit) ≡ Some line → selects d x line ≡ false) → AreInWord d x lines word (without_bit left bit)
AreInWord-without d x lines word left bit in_word low missed = λ i line within at hit. elim (cases_eq i bit) [
  | inl same ↦ absurd (let missed_it = missed line (rw (← same) at) in let clash : true ≡ false = sym hit ∙ missed_it in cc)
  | inr other ↦ bit_at_clear_other w64 left bit low i within other ∙ in_word i line within at hit
]

-- And so there is less to try.
pub without_bit-lt : (left bit : ℕ) → bit < 64 → bit_at left bit ≡ 1 → without_bit left bit < left
without_bit-lt left bit low set = elim (cases_eq (without_bit left bit) left) [
  | inl same ↦ absurd (let cleared = bit_at_clear_same w64 left bit low in let kept : bit_at (without_bit left bit) bit ≡ 1 = rw same set in omega arith)
  | inr other ↦ let most = and_le_l left (bit_not w64 (1 * 2 ^ bit % 2 ^ 64)) in omega arith
]
