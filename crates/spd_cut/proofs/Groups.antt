-- Which points a group has, and how its boxes are judged.
use Rattle.std.proofs.Common.{◌≡◌, ℕ, ◌+◌, ◌≤◌, Bool, true, false, ◌==◌, ◌&&◌, ◌||◌, cond, List, [], ◌∷◌, Option, Some, None}
use Rattle.std.proofs.Common.{option_map, refl, sym, ap, ap₂, ◌∙◌, arith}
use Rattle.std.specs.List.{All, count_by, find, list_any}
use Rattle.std.specs.Option.{option_and_then, option_to_list}
use Rattle.std.proofs.Math.Bool.{and-false, or-false}
use Rattle.std.proofs.lemmas.Bool.{and_parts}
use Rattle.std.proofs.lemmas.Bool.Decides.{nat_tests}
use Rattle.std.proofs.lemmas.List.Elements.{All-append, All-cons, All-head, All-nil, All-tail}
use Rattle.std.proofs.lemmas.List.Folds.{list_any-append}
use Rattle.sel_region.specs.Interval.{range_has, range_on}
use Rattle.sel_region.specs.Pair.{both, pair_has}
use Rattle.sel_region.specs.Region.{hits, one_if, some_has}
use Rattle.sel_box.specs.declared.any_box.AnyBox.{AnyBox}
use Rattle.sel_box.specs.BoxRegion.{box_meet}
use Rattle.sel_box.specs.Bounds.{ranges_on}
use Rattle.sel_box.specs.Boxes.{Ranges, box_from, box_has, family_of, ranges_have, values_of}
use Rattle.sel_box.specs.Class.{opaque_field, opaque_protocol}
use Rattle.sel_box.specs.Point.{PointFields, is_point}
use Rattle.sel_box.specs.laws.BoxLaws.{box_laws, equal_from_same, same_family-refl}
use Rattle.sel_text.specs.declared.family.Family.{Family}
use Rattle.sel_text.specs.declared.family.Family.TheVariants.{Four, Six}
use Rattle.sel_text.specs.Family.{last_address, same_family}
use Rattle.spd_line.specs.declared.judgement.Judgement.{Judgement}
use Rattle.spd_line.specs.declared.line_boxes.LineBox.{LineBox}
use Rattle.spd_line.specs.declared.pin.Pins.{Pins}
use Rattle.spd_cut.specs.declared.entry.Entry.{Entry}
use Rattle.spd_cut.specs.Entries.{entry_has}
use Rattle.spd_cut.specs.Group.{fits, fits_family, group_has, group_of, group_part, pin_bounds, pin_box, pinned_part, pins_fit}
use Rattle.spd_cut.proofs.Gathered.{hits-count}

-- A value of an axis lies in the pinned range where it is the pinned one.
pin_has : (last : ℕ) (pinned : Option ℕ) (value : ℕ) → value ≤ last →
    some_has range_has (range_on last (pin_bounds last pinned).0 (pin_bounds last pinned).1) value ≡ fits pinned value
pin_has last None value within = grind (arith, nat_tests)
pin_has last (Some pinned) value within = grind (arith, nat_tests)

both_has : {R S P Q : Type 0} (f : R → P → Bool) (g : S → Q → Bool) (a : Option R) (b : Option S) (p : P) (q : Q) →
    some_has (pair_has f g) (both a b) (p, q) ≡ (some_has f a p && some_has g b q)
both_has f g (Some a) (Some b) p q = refl
both_has f g (Some a) None p q = sym (and-false (f a p))
both_has f g None (Some b) p q = refl
both_has f g None None p q = refl

-- Each value of a point lies on its axis.
record OnAxes (x : PointFields) : Type 0 where
  local : x.local ≤ last_address x.family
  remote : x.remote ≤ last_address x.family
  protocol : x.protocol ≤ opaque_protocol
  local_field : x.local_field ≤ opaque_field
  remote_field : x.remote_field ≤ opaque_field

on_axes : (x : PointFields) → is_point x ≡ true → OnAxes x
on_axes x point = record {
  local = grind arith;
  remote = grind arith;
  protocol = grind arith;
  local_field = grind arith;
  remote_field = grind arith;
}

-- So five ranges have its values where these are the pinned ones.
ranges_pinned : (pins : Pins) (x : PointFields) → OnAxes x →
    some_has ranges_have (ranges_on (last_address x.family) (
    pin_bounds (last_address x.family) pins.local
    ∷ pin_bounds (last_address x.family) pins.remote
    ∷ pin_bounds opaque_protocol pins.protocol
    ∷ pin_bounds opaque_field pins.local_field
    ∷ pin_bounds opaque_field pins.remote_field
    ∷ []
    )) (values_of x)
    ≡ (fits pins.local x.local
    && (fits pins.remote x.remote
    && (fits pins.protocol x.protocol
    && (fits pins.local_field x.local_field && fits pins.remote_field x.remote_field))))
ranges_pinned pins x on =
    both_has range_has _ _ _ x.local _
    ∙ ap₂ (λ (a b : Bool). a && b) (pin_has (last_address x.family) pins.local x.local on.local)
    (both_has range_has _ _ _ x.remote _
    ∙ ap₂ (λ (a b : Bool). a && b) (pin_has (last_address x.family) pins.remote x.remote on.remote)
    (both_has range_has _ _ _ x.protocol _
    ∙ ap₂ (λ (a b : Bool). a && b) (pin_has opaque_protocol pins.protocol x.protocol on.protocol)
    (both_has range_has range_has _ _ x.local_field x.remote_field
    ∙ ap₂ (λ (a b : Bool). a && b) (pin_has opaque_field pins.local_field x.local_field on.local_field)
    (pin_has opaque_field pins.remote_field x.remote_field on.remote_field))))

-- A box of the point's family has it where its ranges have its values.
from_ranges : (f : Family) (ranges : Option Ranges) (x : PointFields) →
    some_has box_has (option_map (box_from f) ranges) x ≡ (same_family f x.family && some_has ranges_have ranges (values_of x))
from_ranges f None x = sym (and-false (same_family f x.family))
from_ranges Four (Some ranges) x = refl
from_ranges Six (Some ranges) x = refl

pin_box-has : (pins : Pins) (x : PointFields) → OnAxes x → some_has box_has (pin_box x.family pins) x ≡ pins_fit pins x
pin_box-has pins x on = go (fits_family pins.family x.family)
  where
    go : (here : Bool) →
        some_has box_has (cond here (option_map (box_from x.family) (ranges_on (last_address x.family) (
        pin_bounds (last_address x.family) pins.local
        ∷ pin_bounds (last_address x.family) pins.remote
        ∷ pin_bounds opaque_protocol pins.protocol
        ∷ pin_bounds opaque_field pins.local_field
        ∷ pin_bounds opaque_field pins.remote_field
        ∷ []
        ))) None) x
        ≡ (here && (fits pins.local x.local
        && (fits pins.remote x.remote
        && (fits pins.protocol x.protocol
        && (fits pins.local_field x.local_field && fits pins.remote_field x.remote_field)))))
    go true =
        from_ranges x.family _ x
        ∙ ap₂ (λ (a b : Bool). a && b) (same_family-refl x.family) (ranges_pinned pins x on)
    go false = refl

-- A box met with the pinned values has the points that both have.
met_has : (region : AnyBox) (pinned : Option AnyBox) (x : PointFields) →
    some_has box_has (option_and_then (box_meet region) pinned) x ≡ (box_has region x && some_has box_has pinned x)
met_has region None x = sym (and-false (box_has region x))
met_has region (Some box) x = box_laws.meet_has region box x

pinned_part-has : (pins : Pins) (region : AnyBox) (x : PointFields) → OnAxes x →
    some_has box_has (pinned_part pins region) x ≡ (box_has region x && pins_fit pins x)
pinned_part-has pins region x on =
    met_has region (pin_box (family_of region) pins) x ∙ go (box_has region x) refl
  where
    go : (here : Bool) → box_has region x ≡ here →
        (here && some_has box_has (pin_box (family_of region) pins) x) ≡ (here && pins_fit pins x)
    go true has =
        let family = equal_from_same (family_of region) x.family (and_parts _ _ has).0 in
        ap (λ (f : Family). some_has box_has (pin_box f pins) x) family ∙ pin_box-has pins x on
    go false has = refl

-- What an entry gives has the points that it has with the pinned values, where it is linked to the line.
part_has : (link : ℕ) (pins : Pins) (e : Entry) (x : PointFields) → OnAxes x →
    group_has (option_to_list (group_part link pins e)) x ≡ ((e.link == link) && (entry_has e x && pins_fit pins x))
part_has link pins e x on =
    go (e.link == link) (pinned_part pins e.region) ∙ ap (λ (has : Bool). (e.link == link) && has) (pinned_part-has pins e.region x on)
  where
    go : (test : Bool) (part : Option AnyBox) →
        group_has (option_to_list (cond test (option_map (λ (region : AnyBox). record { region = region; judgement = e.judgement }) part) None)) x
        ≡ (test && some_has box_has part x)
    go true None = refl
    go true (Some region) = or-false (box_has region x)
    go false part = refl

-- An entry that has the point is linked to the line that decides it.
abbrev LinkedTo : PointFields → ℕ → Entry → Type 0
LinkedTo x place e = entry_has e x ≡ true → e.link ≡ place

linked_has : (place link : ℕ) (fit : Bool) (e : Entry) (x : PointFields) → LinkedTo x place e →
    ((e.link == link) && (entry_has e x && fit)) ≡ (entry_has e x && ((place == link) && fit))
linked_has place link fit e x linked = go (entry_has e x) linked
  where
    go : (has : Bool) → (has ≡ true → e.link ≡ place) → ((e.link == link) && (has && fit)) ≡ (has && ((place == link) && fit))
    go true linked = ap (λ (l : ℕ). (l == link) && fit) (linked refl)
    go false linked = and-false (e.link == link)

either_and : (a b fit : Bool) → ((a && fit) || (b && fit)) ≡ ((a || b) && fit)
either_and true true true = refl
either_and true true false = refl
either_and true false fit = or-false fit
either_and false b fit = refl

-- So the group has it where some entry has it, the line is its own, and it has the pinned values.
pub group-has : (place link : ℕ) (pins : Pins) (x : PointFields) (es : List Entry) → is_point x ≡ true → All (LinkedTo x place) es →
    group_has (group_of es link pins) x ≡ (list_any (λ e. entry_has e x) es && ((place == link) && pins_fit pins x))
group-has place link pins x [] point linked = refl
group-has place link pins x (e ∷ es) point linked =
    list_any-append (λ (box : LineBox). box_has box.region x) (option_to_list (group_part link pins e)) (group_of es link pins)
    ∙ ap₂ (λ (a b : Bool). a || b)
    (part_has link pins e x (on_axes x point) ∙ linked_has place link (pins_fit pins x) e x (All-head (LinkedTo x place) e es linked))
    (group-has place link pins x es point (All-tail (LinkedTo x place) e es linked))
    ∙ either_and (entry_has e x) (list_any (λ e. entry_has e x) es) ((place == link) && pins_fit pins x)

-- Where one entry has the point, some entry has it.
some_from_hits : {E P : Type 0} (has : E → P → Bool) (es : List E) (p : P) → hits has es p ≡ 1 → list_any (λ e. has e p) es ≡ true
some_from_hits has [] p one = absurd (omega (arith, one))
some_from_hits has (e ∷ es) p one = go (has e p) (some_from_hits has es p) one
  where
    go : (here : Bool) → (hits has es p ≡ 1 → list_any (λ e. has e p) es ≡ true) → one_if here + hits has es p ≡ 1 →
        (here || list_any (λ e. has e p) es) ≡ true
    go true rest one = refl
    go false rest one = rest (omega (arith, one))

pub some_from_one : (x : PointFields) (es : List Entry) → count_by (λ e. entry_has e x) es ≡ 1 → list_any (λ e. entry_has e x) es ≡ true
some_from_one x es one = some_from_hits entry_has es x (hits-count entry_has es x ∙ one)

-- A box of the group that has the point is judged as its entry is.
abbrev JudgedBy : PointFields → Judgement → LineBox → Type 0
JudgedBy x judgement box = box_has box.region x ≡ true → box.judgement ≡ judgement

abbrev EntryJudged : PointFields → Judgement → Entry → Type 0
EntryJudged x judgement e = entry_has e x ≡ true → e.judgement ≡ judgement

part-judged : (link : ℕ) (pins : Pins) (x : PointFields) (judgement : Judgement) (e : Entry) → is_point x ≡ true → EntryJudged x judgement e →
    All (JudgedBy x judgement) (option_to_list (group_part link pins e))
part-judged link pins x judgement e point judged = go (e.link == link) (pinned_part pins e.region) (pinned_part-has pins e.region x (on_axes x point))
  where
    go : (test : Bool) (part : Option AnyBox) → some_has box_has part x ≡ (box_has e.region x && pins_fit pins x) →
        All (JudgedBy x judgement)
        (option_to_list (cond test (option_map (λ (region : AnyBox). record { region = region; judgement = e.judgement }) part) None))
    go true None has = All-nil (JudgedBy x judgement)
    go true (Some region) has =
        All-cons (JudgedBy x judgement) _ [] (λ here. judged (and_parts _ _ (sym has ∙ here)).0) (All-nil (JudgedBy x judgement))
    go false part has = All-nil (JudgedBy x judgement)

pub group-judged : (link : ℕ) (pins : Pins) (x : PointFields) (judgement : Judgement) (es : List Entry) → is_point x ≡ true →
    All (EntryJudged x judgement) es → All (JudgedBy x judgement) (group_of es link pins)
group-judged link pins x judgement [] point judged = All-nil (JudgedBy x judgement)
group-judged link pins x judgement (e ∷ es) point judged =
    All-append (JudgedBy x judgement) (option_to_list (group_part link pins e)) (group_of es link pins)
    (part-judged link pins x judgement e point (All-head (EntryJudged x judgement) e es judged))
    (group-judged link pins x judgement es point (All-tail (EntryJudged x judgement) e es judged))

-- So is the first of them.
pub first-judged : (x : PointFields) (judgement : Judgement) (boxes : List LineBox) → All (JudgedBy x judgement) boxes →
    option_map (λ (box : LineBox). box.judgement) (find (λ box. box_has box.region x) boxes) ≡ cond (group_has boxes x) (Some judgement) None
first-judged x judgement [] judged = refl
first-judged x judgement (box ∷ boxes) judged =
    go (box_has box.region x) (All-head (JudgedBy x judgement) box boxes judged)
    (first-judged x judgement boxes (All-tail (JudgedBy x judgement) box boxes judged))
  where
    go : (here : Bool) → (here ≡ true → box.judgement ≡ judgement) →
        option_map (λ (b : LineBox). b.judgement) (find (λ b. box_has b.region x) boxes) ≡ cond (group_has boxes x) (Some judgement) None →
        option_map (λ (b : LineBox). b.judgement) (cond here (Some box) (find (λ b. box_has b.region x) boxes))
        ≡ cond (here || group_has boxes x) (Some judgement) None
    go true is rest = ap Some (is refl)
    go false is rest = rest
