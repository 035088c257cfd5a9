-- Which of some boxes has a point.
use Rattle.std.specs.Prelude.{◌≡◌, ℕ, List, Option, Some, IsTrue, position, slice_get}
use Rattle.sel_box.specs.declared.any_box.AnyBox.{AnyBox}
use Rattle.sel_box.specs.Boxes.{box_has}
use Rattle.sel_box.specs.Point.{PointFields}

-- The index of the first box that has the point, counted from 0.
abbrev pub index_of : PointFields → List AnyBox → Option ℕ
index_of x boxes = position (λ region. box_has region x) boxes

-- The box at the index has the point.
pub record HasAt (x : PointFields) (boxes : List AnyBox) (index : ℕ) : Type 0 where
  pub region : AnyBox
  pub at : slice_get boxes index ≡ Some region
  pub has : IsTrue (box_has region x)
