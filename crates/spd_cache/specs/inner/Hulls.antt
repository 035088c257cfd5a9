-- The hulls of a cached group: boxes that have all points of its boxes.
use Rattle.std.specs.Prelude.{◌≡◌, Bool, true, ◌||◌, List, All}
use Rattle.sel_region.specs.Region.{some_has}
use Rattle.sel_box.specs.declared.any_box.AnyBox.{AnyBox}
use Rattle.sel_box.specs.Boxes.{box_has}
use Rattle.sel_box.specs.Point.{PointFields}
use Rattle.spd_line.specs.declared.line_boxes.LineBox.{LineBox}
use Rattle.spd_cache.specs.declared.hulls.Hulls.{Hulls}

-- Some hull has the point.
abbrev pub hulls_have : Hulls → PointFields → Bool
hulls_have hulls x =
    some_has (λ hull x. box_has (AnyBox.Four hull) x) hulls.four x || some_has (λ hull x. box_has (AnyBox.Six hull) x) hulls.six x

-- The hulls have each point of a box.
abbrev pub HaveAll : Hulls → AnyBox → Type 0
HaveAll hulls region = (x : PointFields) → box_has region x ≡ true → hulls_have hulls x ≡ true

-- They have each point of each box of a group.
abbrev pub AreHulls : Hulls → List LineBox → Type 0
AreHulls hulls group = All (λ box. HaveAll hulls box.region) group

-- Hulls have each point that others have.
abbrev pub StillHave : Hulls → Hulls → Type 0
StillHave before now = (x : PointFields) → hulls_have before x ≡ true → hulls_have now x ≡ true
