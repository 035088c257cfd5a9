-- The first line of an ordered policy that selects a point decides it (RFC 4301 sections 4.4.1 and 5).
use Rattle.std.specs.Prelude.{ℕ, zero, suc, ◌+◌, Option, Some, None, List, [], ◌∷◌, if◌then◌else◌, slice_get}
use Rattle.sel_box.specs.declared.packet.Direction.{Direction}
use Rattle.sel_box.specs.Point.{PointFields}
use Rattle.spd_line.specs.declared.judgement.Judgement.{Judgement}
use Rattle.spd_line.specs.declared.judgement.Verdict.{Verdict}
use Rattle.spd_line.specs.declared.line.LineParts.{LineParts}
use Rattle.spd_line.specs.Judged.{judged}
use Rattle.spd_line.specs.Policy.{final_name}
use Rattle.spd_line.specs.Selects.{selects}

-- The line at a place, counted from 1.
abbrev pub line_at : List LineParts → ℕ → Option LineParts
line_at lines zero = None
line_at lines (suc k) = slice_get lines k

-- The least place of a line that selects the point, and the place behind the last where there is none.
abbrev pub first_place : Direction → PointFields → List LineParts → ℕ
first_place d x [] = 1
first_place d x (line ∷ lines) = if selects d x line then 1 else 1 + first_place d x lines

-- How the line at a place judges the point. Behind the last line stands `final`, which discards all.
abbrev pub judged_at : Direction → PointFields → Option LineParts → Judgement
judged_at d x None = Judgement.Discard
judged_at d x (Some line) = judged d x line

-- The verdict on a point: its first line, and that line's judgement.
abbrev pub verdict_of : Direction → PointFields → List LineParts → Verdict
verdict_of d x lines =
    let place = first_place d x lines in
    record { line = place; judgement = judged_at d x (line_at lines place) }

-- The name of a line, and of `final` where there is none.
abbrev pub name_of_line : Option LineParts → List ℕ
name_of_line None = final_name
name_of_line (Some line) = line.name

-- The name of the line at a place, `final` behind the last.
abbrev pub name_at : List LineParts → ℕ → List ℕ
name_at lines place = name_of_line (line_at lines place)
