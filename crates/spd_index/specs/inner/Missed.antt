-- Lines that select a point, and lines that don't.
use Rattle.std.specs.Prelude.{◌≡◌, ℕ, ◌+◌, ◌*◌, ◌<◌, true, false, List, Option, Some, None, slice_get, if◌then◌else◌}
use Rattle.std.specs.Int.{bit_at}
use Rattle.sel_box.specs.declared.packet.Direction.{Direction}
use Rattle.sel_box.specs.Point.{PointFields}
use Rattle.spd_line.specs.declared.line.LineParts.{LineParts}
use Rattle.spd_line.specs.declared.judgement.Judgement.{Judgement}
use Rattle.spd_line.specs.Judged.{judged}
use Rattle.spd_line.specs.Selects.{selects}

-- None of the first so many lines selects the point.
abbrev pub IsMissed : Direction → PointFields → List LineParts → ℕ → Type 0
IsMissed d x lines count = (k : ℕ) (line : LineParts) → k < count → slice_get lines k ≡ Some line → selects d x line ≡ false

-- Each of a word's 64 lines that selects the point has its bit.
abbrev pub AreInWord : Direction → PointFields → List LineParts → ℕ → ℕ → Type 0
AreInWord d x lines word bits =
    (bit : ℕ) (line : LineParts) → bit < 64 → slice_get lines (64 * word + bit) ≡ Some line → selects d x line ≡ true → bit_at bits bit ≡ 1

-- The line's judgement of the point, where it selects it.
abbrev pub judged_where_selected : Direction → PointFields → LineParts → Option Judgement
judged_where_selected d x line = if selects d x line then Some (judged d x line) else None
