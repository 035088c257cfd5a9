-- The nodes of a valid certificate are such that a line may have them.
use Rattle.std.proofs.Common.{◌≡◌, ℕ, zero, suc, ◌+◌, ◌-◌, ◌<◌, ◌≤◌, Bool, true, false, cond, ◌&&◌, nat_le, nat_lt, List, [], ◌∷◌, ◌++◌, length, Option, Some, None, refl, sym, subst, ◌∙◌, arith}
use Rattle.std.specs.List.{AllByRecursion}
use Rattle.std.specs.Option.{is_some}
use Rattle.std.proofs.lemmas.Bool.{and_parts}
use Rattle.std.proofs.lemmas.Bool.Decides.{nat_tests}
use Rattle.sel_region.specs.Interval.{Range, high_of, range_from}
use Rattle.sel_box.specs.declared.any_box.AnyBox.{AnyBox}
use Rattle.sel_box.specs.declared.any_box.AxisName.{AxisName}
use Rattle.sel_box.specs.declared.any_box.AxisName.TheVariants.{Local, Remote, Protocol, LocalField, RemoteField}
use Rattle.sel_box.specs.Bounds.{last_on, whole_box}
use Rattle.sel_box.specs.Boxes.{Ranges, axis_range, family_of, range_at}
use Rattle.sel_text.specs.declared.family.Family.{Family}
use Rattle.sel_text.specs.declared.family.Family.TheVariants.{Four, Six}
use Rattle.sel_text.proofs.Options.{map_some}
use Rattle.spd_line.specs.declared.judgement.Judgement.{Judgement}
use Rattle.spd_line.specs.Policy.{most_lines}
use Rattle.cert_text.specs.declared.node.Node.{Node}
use Rattle.cert_text.specs.NodeText.{IsPlace, IsWritable, last_written}
use Rattle.cert_text.specs.Rows.{Row, decided, decided_at, met}
use Rattle.cert_text.specs.Split.{split_box, split_range, split_ranges, with_range}
use Rattle.cert_text.specs.Valid.{both_same, holds, parts, parts_by, valid, whole_boxes}
use Rattle.cert_make.proofs.Cuts.{split_box-some}

-- Each node is such that a line may have it, in the family of its box.
abbrev pub AreWritable : List Node → List AnyBox → Type 0
AreWritable [] boxes = Unit {0}
AreWritable (node ∷ nodes) [] = Unit {0}
AreWritable (node ∷ nodes) (b ∷ boxes) = IsWritable (family_of b) node × AreWritable nodes (parts node b ++ boxes)

-- The ranges lie on their axes.
abbrev pub AreOn : Family → Ranges → Type 0
AreOn family r = (axis : AxisName) → high_of (axis_range axis r) ≤ last_on family axis

abbrev pub IsOnAxes : AnyBox → Type 0
IsOnAxes b = (axis : AxisName) → high_of (range_at axis b) ≤ last_on (family_of b) axis

-- So do those of a part.

high_with : (axis on : AxisName) (range : Range) (r : Ranges) → high_of range ≤ high_of (axis_range axis r)
    → high_of (axis_range on (with_range axis range r)) ≤ high_of (axis_range on r)
high_with Local Local range r less = less
high_with Remote Remote range r less = less
high_with Protocol Protocol range r less = less
high_with LocalField LocalField range r less = less
high_with RemoteField RemoteField range r less = less
high_with _ _ range r less = omega arith

parts_high : (value low more : ℕ) → (nat_le low value && nat_lt value (low + more)) ≡ true
    → (low + (value - low) ≤ low + more) × ((value + 1) + ((low + more) - (value + 1)) ≤ low + more)
parts_high value low more within = (grind (arith, nat_tests), grind (arith, nat_tests))

range_parts-high : (value : ℕ) (r lo hi : Range) → split_range value r ≡ Some (lo, hi) → (high_of lo ≤ high_of r) × (high_of hi ≤ high_of r)
range_parts-high value r lo hi is = go (nat_le r.low value && nat_lt value (high_of r)) refl is
  where
    go : (cuts : Bool) → (nat_le r.low value && nat_lt value (high_of r)) ≡ cuts
        → ◌≡◌ {A = Option (Range × Range)} (cond cuts (Some (range_from r.low value, range_from (value + 1) (high_of r))) None) (Some (lo, hi))
        → (high_of lo ≤ high_of r) × (high_of hi ≤ high_of r)
    go true within same =
        let cut : Range × Range = (range_from r.low value, range_from (value + 1) (high_of r)) in
        let given : Range × Range = (lo, hi) in
        let made : cut ≡ given = cc in
        subst (λ (p : Range × Range). (high_of p.0 ≤ high_of r) × (high_of p.1 ≤ high_of r)) made (parts_high value r.low r.more within)
    go false without same = absurd cc

at_most : (m n k : ℕ) → m ≤ n → n ≤ k → m ≤ k
at_most m n k first second = omega arith

ranges_parts-on : (family : Family) (axis : AxisName) (value : ℕ) (r lo hi : Ranges) → split_ranges axis value r ≡ Some (lo, hi) → AreOn family r
    → AreOn family lo × AreOn family hi
ranges_parts-on family axis value r lo hi is on =
    let cut = map_some (λ (parts : Range × Range). (with_range axis parts.0 r, with_range axis parts.1 r))
    (split_range value (axis_range axis r)) (lo, hi) is in
    let high = range_parts-high value (axis_range axis r) cut.0.0 cut.0.1 cut.1 in
    subst (λ (p : Ranges × Ranges). AreOn family p.0 × AreOn family p.1) cut.2 (
      λ other. at_most (high_of (axis_range other (with_range axis cut.0.0 r))) (high_of (axis_range other r)) (last_on family other)
          (high_with axis other cut.0.0 r high.0) (on other),
      λ other. at_most (high_of (axis_range other (with_range axis cut.0.1 r))) (high_of (axis_range other r)) (last_on family other)
          (high_with axis other cut.0.1 r high.1) (on other),
    )

box_parts-on : (axis : AxisName) (value : ℕ) (b lo hi : AnyBox) → split_box axis value b ≡ Some (lo, hi) → IsOnAxes b → IsOnAxes lo × IsOnAxes hi
box_parts-on axis value (AnyBox.Four r) lo hi is on =
    let cut = map_some (λ (parts : Ranges × Ranges). (AnyBox.Four parts.0, AnyBox.Four parts.1)) (split_ranges axis value r) (lo, hi) is in
    subst (λ (p : AnyBox × AnyBox). IsOnAxes p.0 × IsOnAxes p.1) cut.2 (ranges_parts-on Four axis value r cut.0.0 cut.0.1 cut.1 on)
box_parts-on axis value (AnyBox.Six r) lo hi is on =
    let cut = map_some (λ (parts : Ranges × Ranges). (AnyBox.Six parts.0, AnyBox.Six parts.1)) (split_ranges axis value r) (lo, hi) is in
    subst (λ (p : AnyBox × AnyBox). IsOnAxes p.0 × IsOnAxes p.1) cut.2 (ranges_parts-on Six axis value r cut.0.0 cut.0.1 cut.1 on)

-- The parts of a box before others.
parts-on : (node : Node) (b : AnyBox) (boxes : List AnyBox) → IsOnAxes b → AllByRecursion IsOnAxes boxes
    → AllByRecursion IsOnAxes (parts node b ++ boxes)
parts-on (Node.Leaf i j) b boxes on more = more
parts-on Node.Void b boxes on more = more
parts-on (Node.Split axis value) b boxes on more = go (split_box axis value b) (λ lo hi is. box_parts-on axis value b lo hi is on)
  where
    go : (cut : Option (AnyBox × AnyBox)) → ((lo hi : AnyBox) → cut ≡ Some (lo, hi) → IsOnAxes lo × IsOnAxes hi)
        → AllByRecursion IsOnAxes (parts_by b cut ++ boxes)
    go None both = (on, (on, more))
    go (Some parts) both = let each = both parts.0 parts.1 refl in (each.0, (each.1, more))

-- A value below the last of an axis may be written, and so may the place of a row.

below_last : (family : Family) (axis : AxisName) (value : ℕ) → value < last_on family axis → value ≤ last_written family axis
below_last family Local value below = omega arith
below_last family Remote value below = omega arith
below_last family Protocol value below = omega arith
below_last family LocalField value below = omega arith
below_last family RemoteField value below = omega arith

split-writable : (axis : AxisName) (value : ℕ) (b : AnyBox) → IsOnAxes b → is_some (split_box axis value b) ≡ true
    → value ≤ last_written (family_of b) axis
split-writable axis value b on some =
    let both = and_parts (nat_le (range_at axis b).low value) (nat_lt value (high_of (range_at axis b))) (sym (split_box-some axis value b) ∙ some) in
    below_last (family_of b) axis value (less value (high_of (range_at axis b)) (last_on (family_of b) axis) both.1 (on axis))
  where
    less : (m n k : ℕ) → nat_lt m n ≡ true → n ≤ k → m < k
    less m n k below within = grind (arith, nat_tests)

decided-index : (rows : List Row) (k : ℕ) (b : AnyBox) (found : Judgement) → decided rows k b ≡ Some found → k < length rows
decided-index [] k b found is = absurd cc
decided-index (row ∷ rows) zero b found is = omega arith
decided-index (row ∷ rows) (suc k) b found is = go (met row b) is (decided-index rows k b found)
  where
    go : (meets : Bool) → cond meets None (decided rows k b) ≡ Some found → (decided rows k b ≡ Some found → k < length rows)
        → suc k < length (row ∷ rows)
    go true same later = absurd cc
    go false same later = let less = later same in omega arith

decided-place : (rows : List Row) (place : ℕ) (b : AnyBox) (found : Judgement) → decided_at rows place b ≡ Some found
    → length rows ≤ most_lines + 1 → IsPlace place
decided-place rows zero b found is few = absurd cc
decided-place rows (suc k) b found is few = let less = decided-index rows k b found is in (omega arith, omega arith)

both-there : (ours theirs : Option Judgement) → both_same ours theirs ≡ true
    → (x : Judgement) × (y : Judgement) × (ours ≡ Some x) × (theirs ≡ Some y)
both-there (Some x) (Some y) same = (x, y, refl, refl)
both-there None (Some y) same = absurd cc
both-there (Some x) None same = absurd cc
both-there None None same = absurd cc

module _ (a b : List Row) (a_few : length a ≤ most_lines + 1) (b_few : length b ≤ most_lines + 1) where
  node-writable : (node : Node) (box : AnyBox) → IsOnAxes box → holds a b node box ≡ true → IsWritable (family_of box) node
  node-writable (Node.Split axis value) box on held = split-writable axis value box on held
  node-writable (Node.Leaf i j) box on held =
      let both = both-there (decided_at a i box) (decided_at b j box) held in
      (decided-place a i box both.0 both.2 a_few, decided-place b j box both.1 both.3 b_few)
  node-writable Node.Void box on held = tt

  pub valid-writable : (nodes : List Node) (boxes : List AnyBox) → AllByRecursion IsOnAxes boxes → valid (holds a b) nodes boxes ≡ true
      → AreWritable nodes boxes
  valid-writable [] boxes on all = tt
  valid-writable (node ∷ nodes) [] on all = tt
  valid-writable (node ∷ nodes) (box ∷ boxes) on all =
      let both = and_parts (holds a b node box) (valid (holds a b) nodes (parts node box ++ boxes)) all in
      (node-writable node box on.0 both.0, valid-writable nodes (parts node box ++ boxes) (parts-on node box boxes on.0 on.1) both.1)

whole_box-on : (family : Family) → IsOnAxes (whole_box family)
whole_box-on Four Local = omega arith
whole_box-on Four Remote = omega arith
whole_box-on Four Protocol = omega arith
whole_box-on Four LocalField = omega arith
whole_box-on Four RemoteField = omega arith
whole_box-on Six Local = omega arith
whole_box-on Six Remote = omega arith
whole_box-on Six Protocol = omega arith
whole_box-on Six LocalField = omega arith
whole_box-on Six RemoteField = omega arith

pub whole_boxes-on : AllByRecursion IsOnAxes whole_boxes
unfolding whole_boxes
whole_boxes-on = (whole_box-on Four, (whole_box-on Six, tt))
