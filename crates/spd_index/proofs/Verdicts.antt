-- The verdict on a point, by the lines that were tried.
use Rattle.std.proofs.Common.{◌≡◌, ℕ, zero, suc, ◌+◌, ◌<◌, ◌≤◌, true, List, [], ◌∷◌, length, Some, None, inl, inr, refl, sym, ◌∙◌, arith, add-one}
use Rattle.std.specs.Prelude.{slice_get}
use Rattle.std.proofs.Math.Nat.{le_refl}
use Rattle.std.proofs.lemmas.Bool.{cases_lt}
use Rattle.std.proofs.lemmas.Option.{slice_get_past}
use Rattle.sel_box.specs.declared.packet.Direction.{Direction}
use Rattle.sel_box.specs.Point.{PointFields}
use Rattle.spd_line.specs.declared.judgement.Judgement.{Judgement}
use Rattle.spd_line.specs.declared.line.LineParts.{LineParts}
use Rattle.spd_line.specs.First.{first_place, line_at, verdict_of}
use Rattle.spd_line.specs.Judged.{judged}
use Rattle.spd_line.specs.Selects.{selects}
use Rattle.spd_index.specs.inner.Missed.{IsMissed}

-- The line at a place from 1 is the one at the index before.
pub line_at-is : (lines : List LineParts) (place k : ℕ) (line found : LineParts) → place ≡ k + 1 →
    slice_get lines k ≡ Some line → line_at lines place ≡ Some found → found ≡ line
line_at-is lines place k line found is at at_place =
    let behind : slice_get lines k ≡ Some found = rw (is, add-one) at at_place in
    cc

-- There is a line at no index but theirs.
pub slice_get-within : (lines : List LineParts) (k : ℕ) (line : LineParts) → slice_get lines k ≡ Some line → k < length lines
slice_get-within lines k line at = elim (cases_lt k (length lines)) [
  | inl within ↦ within
  | inr past ↦ absurd (let none : slice_get lines k ≡ None = slice_get_past lines k past in let clash : Some line ≡ None = sym at ∙ none in cc)
]

-- The first line is the one that selects the point behind lines that don't.
first_place-found : (d : Direction) (x : PointFields) (lines : List LineParts) (k : ℕ) (line : LineParts) → IsMissed d x lines k →
    slice_get lines k ≡ Some line → selects d x line ≡ true → first_place d x lines ≡ suc k
first_place-found d x [] k line missed is hit = cc
first_place-found d x (l ∷ ls) zero line missed is hit = let same : l ≡ line = cc in rw same (rw hit refl)
first_place-found d x (l ∷ ls) (suc k) line missed is hit =
    rw (missed zero l (omega arith) refl)
    (let rest = first_place-found d x ls k line (λ j other low at. missed (suc j) other (omega arith) at) is hit in
    omega arith)

first_place-none : (d : Direction) (x : PointFields) (lines : List LineParts) (k : ℕ) → length lines ≤ k → IsMissed d x lines k →
    first_place d x lines ≡ suc (length lines)
first_place-none d x [] k all missed = refl
first_place-none d x (l ∷ ls) zero all missed = absurd (omega arith)
first_place-none d x (l ∷ ls) (suc k) all missed =
    rw (missed zero l (omega arith) refl)
    (let rest = first_place-none d x ls k (omega arith) (λ j other low at. missed (suc j) other (omega arith) at) in
    omega arith)

-- So the verdict is that line's, or where none selects the point that of `final`.
pub verdict_of-found : (d : Direction) (x : PointFields) (lines : List LineParts) (k : ℕ) (line : LineParts) → IsMissed d x lines k →
    slice_get lines k ≡ Some line → selects d x line ≡ true → verdict_of d x lines ≡ record { line = k + 1; judgement = judged d x line }
verdict_of-found d x lines k line missed is hit =
    rw (first_place-found d x lines k line missed is hit) (rw is (rw add-one refl))

pub verdict_of-none : (d : Direction) (x : PointFields) (lines : List LineParts) (k : ℕ) → length lines ≤ k → IsMissed d x lines k →
    verdict_of d x lines ≡ record { line = length lines + 1; judgement = Judgement.Discard }
verdict_of-none d x lines k all missed =
    let none : slice_get lines (length lines) ≡ None = slice_get_past lines (length lines) (le_refl (length lines)) in
    rw (first_place-none d x lines k all missed) (rw none (rw add-one refl))
