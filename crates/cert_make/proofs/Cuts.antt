-- A box is cut inside its range by another that it meets and doesn't lie in.
use Rattle.std.proofs.Common.{◌≡◌, ℕ, ◌+◌, ◌-◌, ◌≤◌, Bool, true, false, cond, ◌&&◌, nat_le, nat_lt, List, [], ◌∷◌, Option, Some, None, refl, sym, ap, ◌∙◌, arith}
use Rattle.std.specs.List.{list_all}
use Rattle.std.specs.Option.{is_some, option_map}
use Rattle.std.proofs.lemmas.Bool.{and_parts}
use Rattle.std.proofs.lemmas.Bool.Decides.{nat_tests}
use Rattle.sel_region.specs.Interval.{Range, high_of, range_from, range_within}
use Rattle.sel_region.specs.Region.{some_has}
use Rattle.sel_box.specs.declared.any_box.AnyBox.{AnyBox}
use Rattle.sel_box.specs.declared.any_box.AxisName.{AxisName}
use Rattle.sel_box.specs.declared.any_box.AxisName.TheVariants.{Local, Remote, Protocol, LocalField, RemoteField}
use Rattle.sel_box.specs.Boxes.{Ranges, box_from, box_has, family_of, range_at, ranges_of}
use Rattle.sel_box.specs.BoxRegion.{box_low, box_meet, box_within, ranges_within}
use Rattle.sel_box.specs.Point.{PointFields}
use Rattle.sel_box.specs.laws.BoxLaws.{box_laws, same_family-refl}
use Rattle.sel_box.proofs.BoxAxes.{box_has-by_axes}
use Rattle.sel_text.specs.Family.{same_family}
use Rattle.sel_tree.specs.FirstMet.{meets}
use Rattle.cert_text.specs.declared.node.Node.{Node}
use Rattle.cert_text.specs.Split.{split_box, with_range}
use Rattle.cert_make.specs.Rule.{axes, split_along, split_or}

-- A box is split exactly where a value lies from its low to below its high.

some_split : {X Y Z : Type 0} (f : Y → Z) (g : X → Y) (x : X) (test : Bool) → is_some (option_map f (option_map g (cond test (Some x) None))) ≡ test
some_split f g x true = refl
some_split f g x false = refl

pub split_box-some : (axis : AxisName) (value : ℕ) (b : AnyBox)
    → is_some (split_box axis value b) ≡ (nat_le (range_at axis b).low value && nat_lt value (high_of (range_at axis b)))
split_box-some axis value b =
    let r = range_at axis b in
    some_split (λ (parts : Ranges × Ranges). (box_from (family_of b) parts.0, box_from (family_of b) parts.1))
    (λ (parts : Range × Range). (with_range axis parts.0 (ranges_of b), with_range axis parts.1 (ranges_of b)))
    (range_from r.low value, range_from (value + 1) (high_of r))
    (nat_le r.low value && nat_lt value (high_of r))

-- The value at which a range is cut by another with which it has a number in common.

below_inside : (low high other_low other_high : ℕ) → other_low ≤ high → nat_lt low other_low ≡ true
    → (nat_le low (other_low - 1) && nat_lt (other_low - 1) high) ≡ true
below_inside low high other_low other_high meets before = grind (arith, nat_tests)

above_inside : (low high other_low other_high : ℕ) → low ≤ other_high → nat_lt low other_low ≡ false
    → (nat_le other_low low && nat_le high other_high) ≡ false → (nat_le low other_high && nat_lt other_high high) ≡ true
above_inside low high other_low other_high meets after outside = grind (arith, nat_tests)

-- The value, where the range doesn't lie in the other.
abbrev pub value_outside : Range → Range → ℕ
value_outside range other = cond (nat_lt range.low other.low) (other.low - 1) (high_of other)

value-inside : (range other : Range) → other.low ≤ high_of range → range.low ≤ high_of other → range_within range other ≡ false
    → (nat_le range.low (value_outside range other) && nat_lt (value_outside range other) (high_of range)) ≡ true
value-inside range other from_low to_high outside = go (nat_lt range.low other.low) refl
  where
    go : (before : Bool) → nat_lt range.low other.low ≡ before
        → (nat_le range.low (cond before (other.low - 1) (high_of other)) && nat_lt (cond before (other.low - 1) (high_of other)) (high_of range)) ≡ true
    go true is = below_inside range.low (high_of range) other.low (high_of other) from_low is
    go false is = above_inside range.low (high_of range) other.low (high_of other) to_high is outside

-- The node splits the box.
pub record Splits (b : AnyBox) (node : Node) : Type 0 where
  pub axis : AxisName
  pub value : ℕ
  pub is : node ≡ Node.Split axis value
  pub inside : is_some (split_box axis value b) ≡ true

-- On each axis the ranges of both boxes have a number in common.
abbrev pub Overlap : AnyBox → AnyBox → Type 0
Overlap b other =
    (axis : AxisName) → ((range_at axis other).low ≤ high_of (range_at axis b)) × ((range_at axis b).low ≤ high_of (range_at axis other))

abbrev pub lies_on : AnyBox → AnyBox → AxisName → Bool
lies_on b other axis = range_within (range_at axis b) (range_at axis other)

splits-along : (b other : AnyBox) → Overlap b other → (some : List AxisName) → list_all (lies_on b other) some ≡ false
    → Splits b (split_along b other some)
splits-along b other overlap [] none = absurd cc
splits-along b other overlap (axis ∷ rest) none = go (lies_on b other axis) refl none (splits-along b other overlap rest)
  where
    go : (lies : Bool) → lies_on b other axis ≡ lies → (lies && list_all (lies_on b other) rest) ≡ false
        → (list_all (lies_on b other) rest ≡ false → Splits b (split_along b other rest))
        → Splits b (split_or axis (cond lies None (Some (value_outside (range_at axis b) (range_at axis other)))) (split_along b other rest))
    go true is outside later = later outside
    go false is outside later = record {
      axis = axis;
      value = value_outside (range_at axis b) (range_at axis other);
      is = refl;
      inside = split_box-some axis (value_outside (range_at axis b) (range_at axis other)) b
          ∙ value-inside (range_at axis b) (range_at axis other) (overlap axis).0 (overlap axis).1 is;
    }

-- A box lies in another of its family exactly where it does on each axis.

and_true : (p : Bool) → (p && true) ≡ p
and_true true = refl
and_true false = refl

on_all_axes : (b other : AnyBox) → list_all (lies_on b other) axes ≡ ranges_within (ranges_of b) (ranges_of other)
on_all_axes b other =
    ap (λ (last : Bool). lies_on b other Local && (lies_on b other Remote && (lies_on b other Protocol && (lies_on b other LocalField && last))))
    (and_true (lies_on b other RemoteField))

-- Boxes that meet have a point in common, so they are of one family and overlap.

pub common_point : (b other : AnyBox) → meets b other ≡ true → (x : PointFields) × (box_has other x ≡ true) × (box_has b x ≡ true)
common_point b other = go (box_meet other b) (box_laws.meet_has other b)
  where
    go : (common : Option AnyBox) → ((x : PointFields) → some_has box_has common x ≡ (box_has other x && box_has b x))
        → is_some common ≡ true → (x : PointFields) × (box_has other x ≡ true) × (box_has b x ≡ true)
    go None same none = absurd cc
    go (Some c) same some =
        let x = box_low c in
        let both = and_parts (box_has other x) (box_has b x) (sym (same x) ∙ box_laws.has_low c) in
        (x, both.0, both.1)

pub splits-met : (b other : AnyBox) → meets b other ≡ true → box_within b other ≡ false → Splits b (split_along b other axes)
splits-met b other met outside =
    let common = common_point b other met in
    let theirs = (box_has-by_axes other common.0).0 common.1 in
    let ours = (box_has-by_axes b common.0).0 common.2 in
    let family_is : family_of other ≡ family_of b = theirs.of_family ∙ sym ours.of_family in
    let same : same_family (family_of b) (family_of other) ≡ true =
    ap (same_family (family_of b)) family_is ∙ same_family-refl (family_of b) in
    splits-along b other
    (λ axis. (omega (arith, theirs.from_low axis, ours.to_high axis), omega (arith, ours.from_low axis, theirs.to_high axis)))
    axes
    (on_all_axes b other ∙ sym (ap (λ (one : Bool). one && ranges_within (ranges_of b) (ranges_of other)) same) ∙ outside)
