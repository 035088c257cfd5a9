-- The first pair of selectors, and its box.
use Rattle.std.proofs.Common.{◌≡◌, ℕ, Bool, true, false, ◌&&◌, ◌||◌, List, [], ◌∷◌, take, Option, Some, None}
use Rattle.std.proofs.Common.{refl, sym, ap, ap₂, ◌∙◌}
use Rattle.std.specs.List.{list_all}
use Rattle.std.proofs.Math.Bool.{or-false}
use Rattle.std.proofs.lemmas.Bool.{and_from, and_parts, or_left}
use Rattle.sel_region.specs.Region.{some_has}
use Rattle.sel_box.specs.declared.any_box.AnyBox.{AnyBox}
use Rattle.sel_box.specs.Boxes.{box_has}
use Rattle.sel_box.specs.Point.{PointFields}
use Rattle.sel_text.specs.declared.family.Family.{Family}
use Rattle.ts_payload.specs.declared.selector.Ts.{Ts}
use Rattle.ts_payload.specs.Selector.{AreSelectors, is_selector}
use Rattle.ts_span.specs.Span.{selects}
use Rattle.ts_span.specs.Spelling.{some_selects}
use Rattle.ts_cover.specs.Covered.{covered}
use Rattle.ts_cover.specs.Pairs.{boxes_have, first_pair}
use Rattle.ts_cover.proofs.PairPoints.{pair_box-points}

-- ---- what the first selectors cover, all cover

take_covers : (list : List Ts) (f : Family) (address protocol field : ℕ) → some_selects (take 1 list) f address protocol field ≡ true →
    some_selects list f address protocol field ≡ true
take_covers [] f address protocol field h = h
take_covers (s ∷ list) f address protocol field h =
    or_left (selects s f address protocol field) (some_selects list f address protocol field)
    (sym (or-false (selects s f address protocol field)) ∙ h)

pub first-covered : (tsi tsr : List Ts) (x : PointFields) → covered (take 1 tsi) (take 1 tsr) x ≡ true → covered tsi tsr x ≡ true
first-covered tsi tsr x h =
    let parts = and_parts (some_selects (take 1 tsi) x.family x.remote x.protocol x.remote_field)
    (some_selects (take 1 tsr) x.family x.local x.protocol x.local_field) h in
    and_from _ _ (take_covers tsi x.family x.remote x.protocol x.remote_field parts.0)
    (take_covers tsr x.family x.local x.protocol x.local_field parts.1)

-- ---- the box of the first pair

first-points : (tsi tsr : List Ts) (x : PointFields) → AreSelectors tsi → AreSelectors tsr →
    some_has box_has (first_pair tsi tsr) x ≡ covered (take 1 tsi) (take 1 tsr) x
first-points [] tsr x hi hr = refl
first-points (s ∷ tsi) [] x hi hr = go (selects s x.family x.remote x.protocol x.remote_field)
  where
    go : (b : Bool) → false ≡ ((b || false) && false)
    go true = refl
    go false = refl
first-points (s ∷ tsi) (t ∷ tsr) x hi hr =
    pair_box-points s t x (and_parts (is_selector s) (list_all is_selector tsi) hi).0
    (and_parts (is_selector t) (list_all is_selector tsr) hr).0
    ∙ ap₂ (λ (a b : Bool). a && b) (sym (or-false (selects s x.family x.remote x.protocol x.remote_field)))
    (sym (or-false (selects t x.family x.local x.protocol x.local_field)))

module _ (tsi tsr : List Ts) (hi : AreSelectors tsi) (hr : AreSelectors tsr) where
  -- It has the points that the first selectors cover;
  pub first-box : (first : AnyBox) → first_pair tsi tsr ≡ Some first → (x : PointFields) →
      box_has first x ≡ covered (take 1 tsi) (take 1 tsr) x
  first-box first e x = ap (λ (o : Option AnyBox). some_has box_has o x) (sym e) ∙ first-points tsi tsr x hi hr

  pub first-boxes : (first : AnyBox) → first_pair tsi tsr ≡ Some first → (x : PointFields) →
      boxes_have (first ∷ []) x ≡ covered (take 1 tsi) (take 1 tsr) x
  first-boxes first e x = or-false (box_has first x) ∙ first-box first e x

  -- where there is none, they cover none.
  pub first-none : first_pair tsi tsr ≡ None → (x : PointFields) → covered (take 1 tsi) (take 1 tsr) x ≡ false
  first-none e x = sym (first-points tsi tsr x hi hr) ∙ ap (λ (o : Option AnyBox). some_has box_has o x) e
