-- Boxes by their regions and their marks.
use Rattle.std.specs.Prelude.{List, [], ◌∷◌}
use Rattle.sel_box.specs.declared.any_box.AnyBox.{AnyBox}
use Rattle.cert_rows.specs.declared.boxes.Mark.{Mark}
use Rattle.cert_make.specs.declared.placed.PlacedBox.{PlacedBox}

-- The boxes of these regions, each with the line of its mark.
abbrev pub placed_by : List AnyBox → List Mark → List PlacedBox
placed_by [] marks = []
placed_by (region ∷ regions) [] = []
placed_by (region ∷ regions) (mark ∷ marks) = record { region = region; line = mark.line } ∷ placed_by regions marks
