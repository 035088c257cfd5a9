-- How the first place moves along a list of lines.
use Rattle.std.proofs.Common.{◌≡◌, ℕ, zero, suc, ◌+◌, ◌-◌, ◌<◌, ◌≤◌, Bool, cond, List, []}
use Rattle.std.proofs.Common.{◌∷◌, Some, None, true, false, length, drop, refl, sym, ◌∙◌, arith, sub-one, add-one}
use Rattle.std.proofs.Math.Nat.{le_refl}
use Rattle.std.proofs.Math.Seq.{drop-length}
use Rattle.std.proofs.lemmas.Option.{slice_get_past}
use Rattle.std.specs.Prelude.{slice_get}
use Rattle.sel_box.specs.declared.packet.Direction.{Direction}
use Rattle.sel_box.specs.Point.{PointFields}
use Rattle.spd_line.specs.declared.line.LineParts.{LineParts}
use Rattle.spd_line.specs.declared.judgement.Judgement.TheVariants.{Discard}
use Rattle.spd_line.specs.First.{first_place, line_at, verdict_of}
use Rattle.spd_line.specs.Judged.{judged}
use Rattle.spd_line.specs.Selects.{selects}

-- Where the line behind the first k selects the point, it is the first of the rest.
first_place-found : (d : Direction) (x : PointFields) (lines : List LineParts) (k : ℕ) (line : LineParts) → slice_get lines k ≡ Some line →
    selects d x line ≡ true → first_place d x (drop k lines) ≡ 1
first_place-found d x [] k line is hit = cc
first_place-found d x (l ∷ ls) zero line is hit = let same : l ≡ line = cc in rw same (rw hit refl)
first_place-found d x (l ∷ ls) (suc k) line is hit = first_place-found d x ls k line is hit

-- Where it doesn't, the rest is looked at without it.
first_place-passed : (d : Direction) (x : PointFields) (lines : List LineParts) (k : ℕ) (line : LineParts) → slice_get lines k ≡ Some line →
    selects d x line ≡ false → first_place d x (drop k lines) ≡ 1 + first_place d x (drop (suc k) lines)
first_place-passed d x [] k line is missed = cc
first_place-passed d x (l ∷ ls) zero line is missed = let same : l ≡ line = cc in rw same (rw missed refl)
first_place-passed d x (l ∷ ls) (suc k) line is missed = first_place-passed d x ls k line is missed

-- No line before the place selects the point.
abbrev pub NoneBefore : Direction → PointFields → List LineParts → ℕ → Type 0
NoneBefore d x lines place = first_place d x lines + 1 ≡ place + first_place d x (drop (place - 1) lines)

pub NoneBefore-found : (d : Direction) (x : PointFields) (lines : List LineParts) (place : ℕ) (line : LineParts) → NoneBefore d x lines place →
    line_at lines place ≡ Some line → selects d x line ≡ true → verdict_of d x lines ≡ record { line = place; judgement = judged d x line }
NoneBefore-found d x lines zero line before is hit = cc
NoneBefore-found d x lines (suc k) line before is hit =
    let shifted : first_place d x lines + 1 ≡ suc k + first_place d x (drop k lines) = rw sub-one at before in
    let one : first_place d x (drop k lines) ≡ 1 = first_place-found d x lines k line is hit in
    let place : first_place d x lines ≡ suc k = omega arith in
    rw place (rw is refl)

pub NoneBefore-passed : (d : Direction) (x : PointFields) (lines : List LineParts) (place : ℕ) (line : LineParts) → NoneBefore d x lines place →
    line_at lines place ≡ Some line → selects d x line ≡ false → NoneBefore d x lines (place + 1)
NoneBefore-passed d x lines zero line before is missed = cc
NoneBefore-passed d x lines (suc k) line before is missed =
    let shifted : first_place d x lines + 1 ≡ suc k + first_place d x (drop k lines) = rw sub-one at before in
    let passed : first_place d x (drop k lines) ≡ 1 + first_place d x (drop (suc k) lines) = first_place-passed d x lines k line is missed in
    let same : suc k + 1 - 1 ≡ suc k = omega arith in
    rw same (omega arith)

pub NoneBefore-all : (d : Direction) (x : PointFields) (lines : List LineParts) (place : ℕ) → NoneBefore d x lines place → place ≡ length lines + 1 →
    verdict_of d x lines ≡ record { line = length lines + 1; judgement = Discard }
NoneBefore-all d x lines place before is =
    let within : place - 1 ≡ length lines = omega arith in
    let shifted : first_place d x lines + 1 ≡ place + first_place d x (drop (length lines) lines) = rw within at before in
    let plain : first_place d x lines + 1 ≡ place + 1 = rw drop-length at shifted in
    let last : first_place d x lines ≡ suc (length lines) = omega arith in
    let none : slice_get lines (length lines) ≡ None = slice_get_past lines (length lines) (le_refl (length lines)) in
    rw last (rw none (rw add-one refl))

-- The first place is one of the list's, or the one behind them.
pub first_place-within : (d : Direction) (x : PointFields) (lines : List LineParts) → (1 ≤ first_place d x lines) × (first_place d x lines ≤ length lines + 1)
first_place-within d x [] = (omega arith, omega arith)
first_place-within d x (l ∷ ls) = within_more (selects d x l) (first_place d x ls) (length ls) (first_place-within d x ls)
  where
    within_more : (b : Bool) (n m : ℕ) → (1 ≤ n) × (n ≤ m + 1) → (1 ≤ cond b 1 (1 + n)) × (cond b 1 (1 + n) ≤ suc m + 1)
    within_more true n m h = (omega arith, omega arith)
    within_more false n m h = (omega arith, omega arith)

line_at-next : (l : LineParts) (ls : List LineParts) (n : ℕ) → 1 ≤ n → line_at (l ∷ ls) (1 + n) ≡ line_at ls n
line_at-next l ls zero some = absurd (omega arith)
line_at-next l ls (suc m) some = let same : 1 + suc m ≡ suc (suc m) = omega arith in rw same refl

-- The line at the first place selects the point.
pub first_place-selects : (d : Direction) (x : PointFields) (lines : List LineParts) (line : LineParts) →
    line_at lines (first_place d x lines) ≡ Some line → selects d x line ≡ true
first_place-selects d x [] line is = cc
first_place-selects d x (l ∷ ls) line is = go (selects d x l) refl (first_place-selects d x ls line) is
  where
    go : (b : Bool) → selects d x l ≡ b → (line_at ls (first_place d x ls) ≡ Some line → selects d x line ≡ true) →
        line_at (l ∷ ls) (cond b 1 (1 + first_place d x ls)) ≡ Some line → selects d x line ≡ true
    go true hit rest at = let same : l ≡ line = cc in rw (← same) hit
    go false missed rest at = rest (sym (line_at-next l ls (first_place d x ls) (first_place-within d x ls).0) ∙ at)

-- No line at a place before it does.
pub first_place-least : (d : Direction) (x : PointFields) (lines : List LineParts) (place : ℕ) (line : LineParts) → place < first_place d x lines →
    line_at lines place ≡ Some line → selects d x line ≡ false
first_place-least d x lines zero line before is = cc
first_place-least d x [] (suc k) line before is = cc
first_place-least d x (l ∷ ls) (suc zero) line before is = go (selects d x l) refl before
  where
    go : (b : Bool) → selects d x l ≡ b → 1 < cond b 1 (1 + first_place d x ls) → selects d x line ≡ false
    go true hit low = absurd (omega arith)
    go false missed low = let same : l ≡ line = cc in rw (← same) missed
first_place-least d x (l ∷ ls) (suc (suc k)) line before is = go (selects d x l) (λ low. first_place-least d x ls (suc k) line low is) before
  where
    go : (b : Bool) → (suc k < first_place d x ls → selects d x line ≡ false) → suc (suc k) < cond b 1 (1 + first_place d x ls) → selects d x line ≡ false
    go true rest low = absurd (omega arith)
    go false rest low = rest (omega arith)
