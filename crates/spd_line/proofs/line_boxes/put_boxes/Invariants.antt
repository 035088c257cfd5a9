use Rattle.std.proofs.Common.{◌≡◌, ◌++◌, map, take}
use Rattle.spd_line.specs.LineBoxes.{line_box}
use Rattle.spd_line.proofs.line_boxes.put_boxes.Given as goal

abbrev pub invariant-loop-one : goal.invariant-loop-one
invariant-loop-one g l = l.list ≡ l.fn.list ++ map (line_box l.direction l.line) (map g.B.OfFamily.region (take l.one-index l.boxes))
