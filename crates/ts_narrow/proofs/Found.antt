-- What is found in a list of meets.
use Rattle.std.proofs.Common.{◌≡◌, ℕ, Bool, true, false, ◌||◌, ◌==◌, cond, List, [], ◌∷◌, Option, Some, None}
use Rattle.std.proofs.Common.{inl, inr, refl, sym, subst, ap, ◌∙◌}
use Rattle.std.specs.List.{find, list_any}
use Rattle.std.specs.Option.{is_some}
use Rattle.std.proofs.lemmas.Bool.{eq-eqb, eqb-true, false≢true, or_cases, or_left, or_right}
use Rattle.std.proofs.lemmas.List.Folds.{list_any-append}
use Rattle.std.proofs.lemmas.Option.{none-some, same_Some}
use Rattle.sel_box.specs.declared.any_box.AnyBox.{AnyBox}
use Rattle.sel_box.specs.Boxes.{box_has}
use Rattle.sel_box.specs.Point.{PointFields}
use Rattle.ts_cover.specs.Pairs.{boxes_have}
use Rattle.ts_cover.specs.RealParts.{reaches, says}
use Rattle.ts_narrow.specs.declared.meets.Meet.{Meet}
use Rattle.ts_narrow.specs.Meets.{region_of, regions_of}

-- A meet has a real point in some of the boxes, and a sayable one.
abbrev pub reaches_in : List AnyBox → Meet → Bool
reaches_in boxes meet = reaches boxes meet.region

abbrev pub says_in : List AnyBox → Meet → Bool
says_in boxes meet = says boxes meet.region

pub find-passes : {X : Type 0} (p : X → Bool) (xs : List X) (x : X) → find p xs ≡ Some x → p x ≡ true
find-passes p [] x h = absurd (none-some x h)
find-passes {X} p (y ∷ xs) x h = go (find-passes p xs x) (p y) refl h
  where
    go : (find p xs ≡ Some x → p x ≡ true) → (b : Bool) → p y ≡ b → cond b (Some y) (find p xs) ≡ Some x → p x ≡ true
    go later true e h = subst (λ (z : X). p z ≡ true) (same_Some y x h) e
    go later false e h = later h

pub find-any : {X : Type 0} (p : X → Bool) (xs : List X) → list_any p xs ≡ is_some (find p xs)
find-any p [] = refl
find-any {X} p (y ∷ xs) = go (find-any p xs) (p y)
  where
    go : list_any p xs ≡ is_some (find p xs) → (b : Bool) → (b || list_any p xs) ≡ is_some (cond b (Some y) (find p xs))
    go later true = refl
    go later false = later

-- Where a test passes for some item, one is found.
pub find-some : {X : Type 0} (p : X → Bool) (xs : List X) → list_any p xs ≡ true → (x : X) × (find p xs ≡ Some x)
find-some {X} p xs h = go (find p xs) refl (sym (find-any p xs) ∙ h)
  where
    go : (o : Option X) → find p xs ≡ o → is_some o ≡ true → (x : X) × (find p xs ≡ Some x)
    go None e h = cc
    go (Some x) e h = (x, e)

-- A meet of the list has its points in the regions of its line.
pub record IsListed (list : List Meet) (meet : Meet) : Type 0 where
  pub points : (x : PointFields) → box_has meet.region x ≡ true → boxes_have (regions_of meet.link list) x ≡ true

listed_first : (meet : Meet) (list : List Meet) → IsListed (meet ∷ list) meet
unfolding regions_of
listed_first meet list = record {
  points = λ x has.
      list_any-append (λ r. box_has r x) (region_of meet.link meet) (regions_of meet.link list)
      ∙ or_left (boxes_have (region_of meet.link meet) x) (boxes_have (regions_of meet.link list) x)
      (ap (λ (b : Bool). boxes_have (cond b (meet.region ∷ []) []) x) (eq-eqb meet.link meet.link refl)
      ∙ or_left (box_has meet.region x) false has);
}

listed_later : (other meet : Meet) (list : List Meet) → IsListed list meet → IsListed (other ∷ list) meet
unfolding regions_of
listed_later other meet list listed = record {
  points = λ x has.
      list_any-append (λ r. box_has r x) (region_of meet.link other) (regions_of meet.link list)
      ∙ or_right (boxes_have (region_of meet.link other) x) (boxes_have (regions_of meet.link list) x) (listed.points x has);
}

pub find-listed : (p : Meet → Bool) (list : List Meet) (meet : Meet) → find p list ≡ Some meet → IsListed list meet
find-listed p [] meet h = absurd (none-some meet h)
find-listed p (m ∷ list) meet h = go (find-listed p list meet) (p m) h
  where
    go : (find p list ≡ Some meet → IsListed list meet) → (b : Bool) → cond b (Some m) (find p list) ≡ Some meet → IsListed (m ∷ list) meet
    go later true h = subst (λ (k : Meet). IsListed (m ∷ list) k) (same_Some m meet h) (listed_first m list)
    go later false h = listed_later m meet list (later h)

-- Where a point is in the regions of a line, a test passes for some meet that passes for each that has the point.
pub point-passes : (q : Meet → Bool) (place : ℕ) (x : PointFields) →
    ((m : Meet) → m.link ≡ place → box_has m.region x ≡ true → q m ≡ true) →
    (list : List Meet) → boxes_have (regions_of place list) x ≡ true → list_any q list ≡ true
unfolding regions_of
point-passes q place x passes [] h = cc
point-passes q place x passes (m ∷ list) h =
    elim (or_cases (boxes_have (region_of place m) x) (boxes_have (regions_of place list) x)
    (sym (list_any-append (λ r. box_has r x) (region_of place m) (regions_of place list)) ∙ h)) [
      | inl here ↦ or_left (q m) (list_any q list) (go (m.link == place) refl here)
      | inr later ↦ or_right (q m) (list_any q list) (point-passes q place x passes list later)
    ]
  where
    go : (b : Bool) → (m.link == place) ≡ b → boxes_have (cond b (m.region ∷ []) []) x ≡ true → q m ≡ true
    go true e h = elim (or_cases (box_has m.region x) false h) [
      | inl has ↦ passes m (eqb-true m.link place e) has
      | inr lacks ↦ absurd (false≢true lacks)
    ]
    go false e h = absurd (false≢true h)
