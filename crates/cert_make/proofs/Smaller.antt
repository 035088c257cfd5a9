-- The parts of a box are smaller than the box.
use Rattle.std.proofs.Common.{◌≡◌, ℕ, ◌+◌, ◌-◌, ◌<◌, Bool, true, false, cond, ◌&&◌, nat_le, nat_lt, List, [], ◌∷◌, ◌++◌, Option, Some, None, refl, sym, subst, arith}
use Rattle.std.specs.List.{AllByRecursion}
use Rattle.std.specs.Option.{is_some}
use Rattle.std.proofs.lemmas.Bool.Decides.{nat_tests}
use Rattle.sel_region.specs.Interval.{Range, high_of, range_from}
use Rattle.sel_box.specs.declared.any_box.AnyBox.{AnyBox}
use Rattle.sel_box.specs.declared.any_box.AxisName.{AxisName}
use Rattle.sel_box.specs.declared.any_box.AxisName.TheVariants.{Local, Remote, Protocol, LocalField, RemoteField}
use Rattle.sel_box.specs.Boxes.{Ranges, axis_range}
use Rattle.sel_box.specs.BoxRegion.{box_within}
use Rattle.sel_box.specs.SomePoint.{has_packet}
use Rattle.sel_text.proofs.Options.{map_some}
use Rattle.sel_tree.specs.FirstMet.{meets}
use Rattle.cert_text.specs.declared.node.Node.{Node}
use Rattle.cert_text.specs.Split.{split_box, split_range, split_ranges, with_range}
use Rattle.cert_text.specs.Valid.{parts, parts_by}
use Rattle.cert_make.specs.declared.placed.PlacedBox.{PlacedBox}
use Rattle.cert_make.specs.Rule.{axes, first_met, node_between, node_for, node_met, split_along}
use Rattle.cert_make.specs.Trees.{ranges_size, size_of, trees_of}
use Rattle.cert_make.proofs.Cuts.{Splits, splits-met}
use Rattle.cert_make.proofs.Trees.{trees-step}

-- What is on one axis is on no other.
with_range-size : (axis : AxisName) (range : Range) (r : Ranges)
    → ranges_size (with_range axis range r) + (axis_range axis r).more ≡ ranges_size r + range.more
with_range-size Local range r = omega arith
with_range-size Remote range r = omega arith
with_range-size Protocol range r = omega arith
with_range-size LocalField range r = omega arith
with_range-size RemoteField range r = omega arith

-- Either part of a range has less above its least number.

parts_less : (value low more : ℕ) → (nat_le low value && nat_lt value (low + more)) ≡ true
    → (value - low < more) × ((low + more) - (value + 1) < more)
parts_less value low more within = (grind (arith, nat_tests), grind (arith, nat_tests))

range_parts-less : (value : ℕ) (r lo hi : Range) → split_range value r ≡ Some (lo, hi) → (lo.more < r.more) × (hi.more < r.more)
range_parts-less value r lo hi is = go (nat_le r.low value && nat_lt value (high_of r)) refl is
  where
    go : (cuts : Bool) → (nat_le r.low value && nat_lt value (high_of r)) ≡ cuts
        → ◌≡◌ {A = Option (Range × Range)} (cond cuts (Some (range_from r.low value, range_from (value + 1) (high_of r))) None) (Some (lo, hi))
        → (lo.more < r.more) × (hi.more < r.more)
    go true within same =
        let cut : Range × Range = (range_from r.low value, range_from (value + 1) (high_of r)) in
        let given : Range × Range = (lo, hi) in
        let made : cut ≡ given = cc in
        subst (λ (p : Range × Range). (p.0.more < r.more) × (p.1.more < r.more)) made (parts_less value r.low r.more within)
    go false without same = absurd cc

ranges_parts-less : (axis : AxisName) (value : ℕ) (r lo hi : Ranges) → split_ranges axis value r ≡ Some (lo, hi)
    → (ranges_size lo < ranges_size r) × (ranges_size hi < ranges_size r)
ranges_parts-less axis value r lo hi is =
    let cut = map_some (λ (parts : Range × Range). (with_range axis parts.0 r, with_range axis parts.1 r))
    (split_range value (axis_range axis r)) (lo, hi) is in
    let less = range_parts-less value (axis_range axis r) cut.0.0 cut.0.1 cut.1 in
    subst (λ (p : Ranges × Ranges). (ranges_size p.0 < ranges_size r) × (ranges_size p.1 < ranges_size r)) cut.2
    (omega (arith, less.0, with_range-size axis cut.0.0 r), omega (arith, less.1, with_range-size axis cut.0.1 r))

box_parts-less : (axis : AxisName) (value : ℕ) (b lo hi : AnyBox) → split_box axis value b ≡ Some (lo, hi)
    → (size_of lo < size_of b) × (size_of hi < size_of b)
box_parts-less axis value (AnyBox.Four r) lo hi is =
    let cut = map_some (λ (parts : Ranges × Ranges). (AnyBox.Four parts.0, AnyBox.Four parts.1)) (split_ranges axis value r) (lo, hi) is in
    subst (λ (p : AnyBox × AnyBox). (size_of p.0 < ranges_size r) × (size_of p.1 < ranges_size r)) cut.2
    (ranges_parts-less axis value r cut.0.0 cut.0.1 cut.1)
box_parts-less axis value (AnyBox.Six r) lo hi is =
    let cut = map_some (λ (parts : Ranges × Ranges). (AnyBox.Six parts.0, AnyBox.Six parts.1)) (split_ranges axis value r) (lo, hi) is in
    subst (λ (p : AnyBox × AnyBox). (size_of p.0 < ranges_size r) × (size_of p.1 < ranges_size r)) cut.2
    (ranges_parts-less axis value r cut.0.0 cut.0.1 cut.1)

abbrev pub AreSmaller : AnyBox → List AnyBox → Type 0
AreSmaller b boxes = AllByRecursion (λ p. size_of p < size_of b) boxes

parts-smaller : (b : AnyBox) (cut : Option (AnyBox × AnyBox))
    → ((lo hi : AnyBox) → cut ≡ Some (lo, hi) → (size_of lo < size_of b) × (size_of hi < size_of b))
    → is_some cut ≡ true → AreSmaller b (parts_by b cut)
parts-smaller b None less none = absurd cc
parts-smaller b (Some parts) less some = let both = less parts.0 parts.1 refl in (both.0, (both.1, tt))

split-smaller : (b : AnyBox) (node : Node) → Splits b node → AreSmaller b (parts node b)
split-smaller b node splits =
    subst (λ (n : Node). AreSmaller b (parts n b)) (sym splits.is)
    (parts-smaller b (split_box splits.axis splits.value b) (box_parts-less splits.axis splits.value b) splits.inside)

-- The first box that meets a box meets it.
pub first_met-meets : (b : AnyBox) (boxes : List PlacedBox) (found : PlacedBox) → first_met b boxes ≡ Some found → meets b found.region ≡ true
first_met-meets b [] found is = absurd cc
first_met-meets b (box ∷ boxes) found is = go (meets b box.region) refl (first_met-meets b boxes found) is
  where
    go : (met : Bool) → meets b box.region ≡ met → (first_met b boxes ≡ Some found → meets b found.region ≡ true)
        → cond met (Some box) (first_met b boxes) ≡ Some found → meets b found.region ≡ true
    go true met later same =
        let box_is : box ≡ found = cc in
        subst (λ (p : PlacedBox). meets b p.region ≡ true) box_is met
    go false missed later same = later same

-- What is so of each node that the rule may put over a box is so of the node that it puts there.
module _ (P : Node → Type 0) (ours theirs : List PlacedBox) (b : AnyBox)
    (nothing : has_packet b ≡ false → P Node.Void)
    (a_unmet : has_packet b ≡ true → first_met b ours ≡ None → P Node.Void)
    (b_unmet : has_packet b ≡ true → first_met b theirs ≡ None → P Node.Void)
    (leaf : has_packet b ≡ true → (x y : PlacedBox) → first_met b ours ≡ Some x → first_met b theirs ≡ Some y
    → box_within b x.region ≡ true → box_within b y.region ≡ true → P (Node.Leaf x.line y.line))
    (split : (node : Node) → Splits b node → P node)
  where
    between-cases : has_packet b ≡ true → (x y : PlacedBox) → first_met b ours ≡ Some x → first_met b theirs ≡ Some y
        → P (node_between b x y)
    between-cases some x y x_is y_is = go (box_within b x.region) (box_within b y.region) refl refl
      where
        go : (in_x in_y : Bool) → box_within b x.region ≡ in_x → box_within b y.region ≡ in_y
            → P (cond in_x (cond in_y (Node.Leaf x.line y.line) (split_along b y.region axes)) (split_along b x.region axes))
        go true true lies_x lies_y = leaf some x y x_is y_is lies_x lies_y
        go true false lies_x out_y = split (split_along b y.region axes) (splits-met b y.region (first_met-meets b theirs y y_is) out_y)
        go false in_y out_x is_y = split (split_along b x.region axes) (splits-met b x.region (first_met-meets b ours x x_is) out_x)

    met-cases : has_packet b ≡ true → (x y : Option PlacedBox) → first_met b ours ≡ x → first_met b theirs ≡ y → P (node_met b x y)
    met-cases some (Some x) (Some y) x_is y_is = between-cases some x y x_is y_is
    met-cases some (Some x) None x_is y_is = b_unmet some y_is
    met-cases some None y x_is y_is = a_unmet some x_is

    pub node_for-cases : P (node_for ours theirs b)
    node_for-cases = go (has_packet b) refl
      where
        go : (some : Bool) → has_packet b ≡ some → P (cond some (node_met b (first_met b ours) (first_met b theirs)) Node.Void)
        go true some = met-cases some (first_met b ours) (first_met b theirs) refl refl
        go false none = nothing none

pub node_for-smaller : (ours theirs : List PlacedBox) (b : AnyBox) → AreSmaller b (parts (node_for ours theirs b) b)
node_for-smaller ours theirs b =
    node_for-cases (λ node. AreSmaller b (parts node b)) ours theirs b (λ none. tt) (λ some unmet. tt) (λ some unmet. tt)
    (λ some x y x_is y_is lies_x lies_y. tt) (split-smaller b)

-- The rule's trees begin with the node of the first box.
pub trees_of-step : (ours theirs : List PlacedBox) (b : AnyBox) (boxes : List AnyBox)
    → trees_of (node_for ours theirs) (b ∷ boxes)
    ≡ node_for ours theirs b ∷ trees_of (node_for ours theirs) (parts (node_for ours theirs b) b ++ boxes)
unfolding trees_of
trees_of-step ours theirs b boxes = trees-step (node_for ours theirs) size_of (node_for-smaller ours theirs) b boxes

pub trees_of-none : (ours theirs : List PlacedBox) → trees_of (node_for ours theirs) [] ≡ []
unfolding trees_of
trees_of-none ours theirs = refl
