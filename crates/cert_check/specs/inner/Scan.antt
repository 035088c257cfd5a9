-- How a line decides a box, by the boxes of all lines one after another.
use Rattle.std.specs.Prelude.{ℕ, ◌==◌, List, [], ◌∷◌, Option, Some, None, if◌then◌else◌}
use Rattle.std.specs.Option.{is_some}
use Rattle.sel_box.specs.declared.any_box.AnyBox.{AnyBox}
use Rattle.sel_box.specs.BoxRegion.{box_meet, box_within}
use Rattle.spd_line.specs.declared.judgement.Judgement.{Judgement}
use Rattle.cert_rows.specs.declared.boxes.Mark.{Mark}

-- How the line decides the box: of the boxes that meet it, those before the first in which it lies are of the line, and
-- that one too.
abbrev pub scan : ℕ → AnyBox → List AnyBox → List Mark → Option Judgement
scan line b [] marks = None
scan line b (region ∷ regions) [] = None
scan line b (region ∷ regions) (mark ∷ marks) =
    if is_some (box_meet region b)
    then (if mark.line == line
    then (if box_within b region then Some mark.judgement else scan line b regions marks)
    else None)
    else scan line b regions marks
