-- The box that has a point alone: a box meets it exactly where it has the point.
use Rattle.std.proofs.Common.{◌≡◌, ℕ, ◌+◌, ◌-◌, ◌≤◌, Bool, true, false, ◌&&◌, ◌↔◌, nat_le, cond, List, [], ◌∷◌}
use Rattle.std.proofs.Common.{Option, Some, None, is_some, option_map, refl, sym, subst, ap, ap₂, ◌∙◌, arith}
use Rattle.std.specs.List.{position_from}
use Rattle.std.proofs.lemmas.Bool.{and_parts}
use Rattle.std.proofs.lemmas.Bool.Decides.{nat_tests}
use Rattle.std.proofs.lemmas.Iterator.Adapters.{position_from-zero}
use Rattle.sel_region.specs.Interval.{Range, range_from, range_has, range_on}
use Rattle.sel_region.specs.Pair.{both}
use Rattle.sel_region.specs.Region.{some_has}
use Rattle.sel_box.specs.declared.any_box.AnyBox.{AnyBox}
use Rattle.sel_box.specs.BoxRegion.{box_low, box_meet}
use Rattle.sel_box.specs.Bounds.{box_of}
use Rattle.sel_box.specs.Boxes.{Ranges, box_from, box_has, ranges_have, values_of}
use Rattle.sel_box.specs.ByAxes.{five}
use Rattle.sel_box.specs.Class.{opaque_field, opaque_protocol}
use Rattle.sel_box.specs.Point.{PointFields, is_point}
use Rattle.sel_box.specs.laws.BoxLaws.{box_laws, equal_from_same, same_family-refl}
use Rattle.sel_text.specs.declared.family.Family.{Family}
use Rattle.sel_text.specs.declared.family.Family.TheVariants.{Four, Six}
use Rattle.sel_text.specs.Family.{last_address, same_family}
use Rattle.sel_tree.specs.FirstMet.{first_met_from, meets}
use Rattle.spd_find.specs.Finding.{index_of}

-- One number.
abbrev pub only : ℕ → Range
only v = record { low = v; more = 0 }

only-on : (last v : ℕ) → v ≤ last → range_on last v v ≡ Some (only v)
only-on last v within =
    ap (λ (test : Bool). cond test (Some (range_from v v)) None) (fits v last within)
    ∙ ap (λ (more : ℕ). Some record { low = v; more = more }) (omega arith)
  where
    fits : (v last : ℕ) → v ≤ last → (nat_le v v && nat_le v last) ≡ true
    fits v last within = grind (arith, nat_tests)

only-has : (v n : ℕ) → n ≡ v → range_has (only v) n ≡ true
only-has v n same = grind (arith, nat_tests)

only-is : (v n : ℕ) → range_has (only v) n ≡ true → n ≡ v
only-is v n has = grind (arith, nat_tests)

-- The box of one point.
abbrev pub ranges_alone : PointFields → Ranges
ranges_alone x = five (only x.local) (only x.remote) (only x.protocol) (only x.local_field) (only x.remote_field)

abbrev pub box_alone : PointFields → AnyBox
box_alone x = box_from x.family (ranges_alone x)

-- It has these bounds.
pub box_of-alone : (x : PointFields) → is_point x ≡ true →
    box_of x.family (
    (x.local, x.local) ∷ (x.remote, x.remote) ∷ (x.protocol, x.protocol)
    ∷ (x.local_field, x.local_field) ∷ (x.remote_field, x.remote_field) ∷ [])
    ≡ Some (box_alone x)
box_of-alone x point =
    ap (option_map (box_from x.family))
    (ap₂ both (only-on (last_address x.family) x.local (on_local x point))
    (ap₂ both (only-on (last_address x.family) x.remote (on_remote x point))
    (ap₂ both (only-on opaque_protocol x.protocol (on_protocol x point))
    (ap₂ both (only-on opaque_field x.local_field (on_local_field x point)) (only-on opaque_field x.remote_field (on_remote_field x point))))))
  where
    on_local : (x : PointFields) → is_point x ≡ true → x.local ≤ last_address x.family
    on_local x point = grind arith

    on_remote : (x : PointFields) → is_point x ≡ true → x.remote ≤ last_address x.family
    on_remote x point = grind arith

    on_protocol : (x : PointFields) → is_point x ≡ true → x.protocol ≤ opaque_protocol
    on_protocol x point = grind arith

    on_local_field : (x : PointFields) → is_point x ≡ true → x.local_field ≤ opaque_field
    on_local_field x point = grind arith

    on_remote_field : (x : PointFields) → is_point x ≡ true → x.remote_field ≤ opaque_field
    on_remote_field x point = grind arith

from_has : (f : Family) (ranges : Ranges) (y : PointFields) →
    box_has (box_from f ranges) y ≡ (same_family f y.family && ranges_have ranges (values_of y))
from_has Four ranges y = refl
from_has Six ranges y = refl

-- It has the point and no other.
pub alone : (x y : PointFields) → (box_has (box_alone x) y ≡ true) ↔ (y ≡ x)
alone x y = (is, λ same. subst (λ (z : PointFields). box_has (box_alone x) z ≡ true) (sym same) itself)
  where
    is : box_has (box_alone x) y ≡ true → y ≡ x
    is has =
        let parts = and_parts _ _ (sym (from_has x.family (ranges_alone x) y) ∙ has) in
        let local = and_parts _ _ parts.1 in
        let remote = and_parts _ _ local.1 in
        let protocol = and_parts _ _ remote.1 in
        let fields = and_parts _ _ protocol.1 in
        λ i. record {
          family = sym (equal_from_same x.family y.family parts.0) i;
          local = only-is x.local y.local local.0 i;
          remote = only-is x.remote y.remote remote.0 i;
          protocol = only-is x.protocol y.protocol protocol.0 i;
          local_field = only-is x.local_field y.local_field fields.0 i;
          remote_field = only-is x.remote_field y.remote_field fields.1 i;
        }

    itself : box_has (box_alone x) x ≡ true
    itself =
        from_has x.family (ranges_alone x) x
        ∙ ap₂ (λ (a b : Bool). a && b) (same_family-refl x.family)
        (ap₂ (λ (a b : Bool). a && b) (only-has x.local x.local refl)
        (ap₂ (λ (a b : Bool). a && b) (only-has x.remote x.remote refl)
        (ap₂ (λ (a b : Bool). a && b) (only-has x.protocol x.protocol refl)
        (ap₂ (λ (a b : Bool). a && b) (only-has x.local_field x.local_field refl) (only-has x.remote_field x.remote_field refl)))))

-- What `AnyBox::new` gives of these bounds has the point and no other.
pub alone_from : (x : PointFields) (region : AnyBox) (family : Family) (local remote protocol local_field remote_field : ℕ × ℕ) →
    is_point x ≡ true → family ≡ x.family → local ≡ (x.local, x.local) → remote ≡ (x.remote, x.remote) →
    protocol ≡ (x.protocol, x.protocol) → local_field ≡ (x.local_field, x.local_field) → remote_field ≡ (x.remote_field, x.remote_field) →
    Some region ≡ box_of family (local ∷ remote ∷ protocol ∷ local_field ∷ remote_field ∷ []) →
    (y : PointFields) → (box_has region y ≡ true) ↔ (y ≡ x)
alone_from x region family local remote protocol local_field remote_field point of_family a b c d e is =
    subst (λ (r : AnyBox). (y : PointFields) → (box_has r y ≡ true) ↔ (y ≡ x)) (sym same) (alone x)
  where
    bounds : box_of family (local ∷ remote ∷ protocol ∷ local_field ∷ remote_field ∷ []) ≡ Some (box_alone x)
    bounds = (λ i. box_of (of_family i) (a i ∷ b i ∷ c i ∷ d i ∷ e i ∷ [])) ∙ box_of-alone x point

    same : region ≡ box_alone x
    same = inside (is ∙ bounds)
      where
        inside : {r s : AnyBox} → ◌≡◌ {A = Option AnyBox} (Some r) (Some s) → r ≡ s
        inside e = cc

abbrev IsAlone : AnyBox → PointFields → Type 0
IsAlone region x = (y : PointFields) → (box_has region y ≡ true) ↔ (y ≡ x)

-- A box meets it where it has the point.
meets-alone : (region : AnyBox) (x : PointFields) → IsAlone region x → (listed : AnyBox) → meets region listed ≡ box_has listed x
meets-alone region x is listed = go (box_meet listed region) (box_laws.meet_has listed region)
  where
    with_true : (a b : Bool) → b ≡ true → (a && b) ≡ a
    with_true true b e = e
    with_true false b e = refl

    go : (met : Option AnyBox) → ((y : PointFields) → some_has box_has met y ≡ (box_has listed y && box_has region y)) →
        is_some met ≡ box_has listed x
    go None all = all x ∙ with_true (box_has listed x) (box_has region x) ((is x).1 refl)
    go (Some common) all =
        let both_have = and_parts (box_has listed (box_low common)) (box_has region (box_low common))
        (sym (all (box_low common)) ∙ box_laws.has_low common) in
        sym (ap (box_has listed) (sym ((is (box_low common)).0 both_have.1)) ∙ both_have.0)

-- Two tests that agree find the same.
position-agrees : {A : Type 0} (f g : A → Bool) → ((x : A) → f x ≡ g x) → (from : ℕ) (xs : List A) →
    position_from f from xs ≡ position_from g from xs
position-agrees f g same from [] = refl
position-agrees f g same from (x ∷ xs) =
    ap₂ (λ (test : Bool) (rest : Option ℕ). cond test (Some from) rest) (same x) (position-agrees f g same (from + 1) xs)

-- So the first box that meets it is the first that has the point.
pub first_met-alone : (region : AnyBox) (x : PointFields) → IsAlone region x → (boxes : List AnyBox) →
    first_met_from 0 region boxes ≡ index_of x boxes
first_met-alone region x is boxes =
    position-agrees (meets region) (λ listed. box_has listed x) (meets-alone region x is) 0 boxes
    ∙ sym (position_from-zero (λ listed. box_has listed x) boxes)
