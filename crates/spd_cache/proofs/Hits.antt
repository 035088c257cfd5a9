-- When a point is answered.
use Rattle.std.proofs.Common.{◌≡◌, Bool, true, false, ◌&&◌, ◌||◌, cond, List, [], ◌∷◌, Option, Some, None, is_some, option_map, refl, ap, ap₂, ◌∙◌}
use Rattle.std.specs.List.{find, list_any}
use Rattle.std.specs.Option.{option_or}
use Rattle.sel_box.specs.declared.packet.Direction.{Direction}
use Rattle.sel_box.specs.Boxes.{box_has}
use Rattle.sel_box.specs.Point.{PointFields}
use Rattle.spd_line.specs.declared.line_boxes.LineBox.{LineBox}
use Rattle.spd_cache.specs.Cached.{Cell, first_box, first_hit, hit, holds}
use Rattle.spd_cache.specs.Key.{same_direction}

is_some-find : {A : Type 0} (test : A → Bool) (xs : List A) → is_some (find test xs) ≡ list_any test xs
is_some-find test [] = refl
is_some-find test (x ∷ xs) = go (test x) (is_some-find test xs)
  where
    go : (here : Bool) → is_some (find test xs) ≡ list_any test xs → is_some (cond here (Some x) (find test xs)) ≡ (here || list_any test xs)
    go true rest = refl
    go false rest = rest

is_some-map : {A B : Type 0} (f : A → B) (found : Option A) → is_some (option_map f found) ≡ is_some found
is_some-map f None = refl
is_some-map f (Some x) = refl

is_some-or : {A : Type 0} (first later : Option A) → is_some (option_or first later) ≡ (is_some first || is_some later)
is_some-or None later = refl
is_some-or (Some x) later = refl

is_some-if : {A : Type 0} (test : Bool) (found : Option A) → is_some (cond test found None) ≡ (test && is_some found)
is_some-if true found = refl
is_some-if false found = refl

-- A group is answered from exactly where it holds the point.
is_some-hit : (d : Direction) (x : PointFields) (cell : Cell) → is_some (hit d x cell) ≡ holds d x cell
is_some-hit d x cell =
    is_some-if (same_direction cell.0.direction d) _
    ∙ ap (λ (found : Bool). same_direction cell.0.direction d && found)
    (is_some-map _ (first_box x cell.1) ∙ is_some-find (λ (box : LineBox). box_has box.region x) cell.1)

pub is_some-first_hit : (d : Direction) (x : PointFields) (cells : List Cell) → is_some (first_hit d x cells) ≡ list_any (holds d x) cells
is_some-first_hit d x [] = refl
is_some-first_hit d x (cell ∷ cells) =
    is_some-or (hit d x cell) (first_hit d x cells)
    ∙ ap₂ (λ (here later : Bool). here || later) (is_some-hit d x cell) (is_some-first_hit d x cells)
