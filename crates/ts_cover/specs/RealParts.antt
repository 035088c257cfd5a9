-- Whether boxes have real points in common, and whether some are left of boxes without others.
use Rattle.std.specs.Prelude.{◌≡◌, ℕ, Bool, true, false, List, [], ◌∷◌, Option, IsTrue}
use Rattle.std.specs.List.{list_any}
use Rattle.std.specs.Option.{option_and_then, option_map_or}
use Rattle.sel_box.specs.declared.any_box.AnyBox.{AnyBox}
use Rattle.sel_box.specs.Bounds.{box_of}
use Rattle.sel_box.specs.Boxes.{box_has, family_of}
use Rattle.sel_box.specs.BoxRegion.{box_meet, box_minus}
use Rattle.sel_box.specs.Class.{opaque_field}
use Rattle.sel_box.specs.Point.{PointFields, IsReal}
use Rattle.sel_box.specs.SomePoint.{has_real_point}
use Rattle.sel_region.specs.Cutting.{cut_all}
use Rattle.sel_text.specs.Family.{last_address}
use Rattle.ts_cover.specs.Covered.{is_sayable}
use Rattle.ts_cover.specs.Pairs.{boxes_have}

-- Two boxes have a real point in common.
abbrev pub real_meet : AnyBox → AnyBox → Bool
real_meet a b = option_map_or has_real_point (box_meet a b) false

-- The box has a real point in some of the boxes.
unfoldable pub reaches : List AnyBox → AnyBox → Bool
reaches boxes region = list_any (real_meet region) boxes

-- The points of a box whose protocol lies in a range.
abbrev pub of_protocols : ℕ × ℕ → AnyBox → Option AnyBox
of_protocols protocols region =
    let family = family_of region in
    let addresses : ℕ × ℕ = (0, last_address family) in
    let fields : ℕ × ℕ = (0, opaque_field) in
    option_and_then (box_meet region) (box_of family (addresses ∷ addresses ∷ protocols ∷ fields ∷ fields ∷ []))

-- The box has a sayable real point in some of the boxes.
unfoldable pub says : List AnyBox → AnyBox → Bool
says boxes region = option_map_or (reaches boxes) (of_protocols (1, 255) region) false

-- Of some boxes without others a real point is left.
unfoldable pub leaves : List AnyBox → List AnyBox → Bool
leaves boxes others = list_any has_real_point (cut_all box_minus boxes others)

-- The same by points: a real point of the box is in some of the boxes,
pub record Reaches (boxes : List AnyBox) (region : AnyBox) : Type 0 where
  pub point : PointFields
  pub real : IsReal point
  pub inside : box_has region point ≡ true
  pub reached : boxes_have boxes point ≡ true

-- a sayable one is,
pub record Says (boxes : List AnyBox) (region : AnyBox) : Type 0 where
  pub point : PointFields
  pub real : IsReal point
  pub inside : box_has region point ≡ true
  pub reached : boxes_have boxes point ≡ true
  pub sayable : IsTrue (is_sayable point)

-- and a real point is in some of the boxes and in none of the others.
pub record Leaves (boxes others : List AnyBox) : Type 0 where
  pub point : PointFields
  pub real : IsReal point
  pub inside : boxes_have boxes point ≡ true
  pub outside : boxes_have others point ≡ false
