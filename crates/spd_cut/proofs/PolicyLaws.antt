-- What the laws of boxes and of lines say, as their crates promise it.
use Rattle.std.specs.Prelude.{◌≡◌, ◌≤◌, true, List, IsTrue, count_by, ◌↔◌}
use Rattle.std.specs.List.{All, list_any}
use Rattle.sel_box.specs.Boxes.{box_has}
use Rattle.sel_box.specs.declared.any_box.AnyBox.{AnyBox}
use Rattle.sel_box.specs.declared.packet.Direction.{Direction}
use Rattle.sel_box.specs.Point.{IsReal, PointFields, is_point}
use Rattle.sel_box.specs.SomePoint.{has_real_point}
use Rattle.spd_line.specs.declared.judgement.Judgement.{Judgement}
use Rattle.spd_line.specs.declared.line.LineParts.{LineParts}
use Rattle.spd_line.specs.declared.line_boxes.LineBox.{LineBox}
use Rattle.spd_line.specs.First.{first_place}
use Rattle.spd_line.specs.Judged.{judged}
use Rattle.spd_line.specs.LineBoxes.{final_list, line_boxes}
use Rattle.spd_line.specs.Selects.{selects}

pub record PolicyLaws : Type 0 where
  -- a box passes the test for real points exactly where it has one
  pub real : (b : AnyBox) → IsTrue (has_real_point b) ↔ ((x : PointFields) × (IsTrue (box_has b x)) × IsReal x)
  -- some box of a line has a point exactly where the line selects it, and each that has it is judged as the line judges it
  pub has : (d : Direction) (x : PointFields) (line : LineParts) → IsTrue (is_point x) →
      list_any (λ (b : LineBox). box_has b.region x) (line_boxes d line) ≡ selects d x line
  pub judged : (d : Direction) (x : PointFields) (line : LineParts) →
      All (λ (b : LineBox). box_has b.region x ≡ true → b.judgement ≡ judged d x line) (line_boxes d line)
  -- one box of `final` has each point, and both are discarded
  pub once : (x : PointFields) → IsTrue (is_point x) → count_by (λ (b : LineBox). box_has b.region x) final_list ≡ 1
  pub discards : All (λ (b : LineBox). b.judgement ≡ Judgement.Discard) final_list
  -- the first place isn't 0
  pub low : (d : Direction) (x : PointFields) (lines : List LineParts) → 1 ≤ first_place d x lines
