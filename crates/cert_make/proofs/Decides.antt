-- The line of the first box that meets a box decides it, where the box lies in that one.
use Rattle.std.proofs.Common.{◌≡◌, ℕ, suc, ◌+◌, Bool, true, false, cond, ◌&&◌, ◌||◌, List, [], ◌∷◌, ◌++◌, Option, Some, None, refl, sym, ap, ap₂, subst, ◌∙◌, arith}
use Rattle.std.specs.Option.{is_some}
use Rattle.sel_region.specs.Region.{some_has}
use Rattle.sel_box.specs.declared.any_box.AnyBox.{AnyBox}
use Rattle.sel_box.specs.Boxes.{box_has}
use Rattle.sel_box.specs.BoxRegion.{box_meet, box_within}
use Rattle.sel_box.specs.Point.{PointFields}
use Rattle.sel_box.specs.laws.BoxLaws.{box_laws}
use Rattle.sel_tree.specs.FirstMet.{meets}
use Rattle.spd_line.specs.declared.judgement.Judgement.{Judgement}
use Rattle.spd_line.specs.declared.line_boxes.LineBox.{LineBox}
use Rattle.cert_text.specs.Rows.{Row, decided, decided_at, held, met}
use Rattle.cert_check.proofs.Agrees.{first_in, first_of, has_at, or_else}
use Rattle.cert_make.specs.declared.placed.PlacedBox.{PlacedBox}
use Rattle.cert_make.specs.Rule.{first_met, placed, placed_in}

abbrev at_place : LineBox → ℕ → PlacedBox
at_place box place = record { region = box.region; line = place }

module _ (b : AnyBox) where
  -- A row that doesn't meet the box is passed over.
  past_row : (place : ℕ) (row : Row) (more : List PlacedBox) → met row b ≡ false
      → first_met b (placed_in place row ++ more) ≡ first_met b more
  past_row place [] more missed = refl
  past_row place (box ∷ row) more missed = go (is_some (box_meet box.region b)) refl missed (past_row place row more)
    where
      go : (meets : Bool) → is_some (box_meet box.region b) ≡ meets → (meets || met row b) ≡ false
          → (met row b ≡ false → first_met b (placed_in place row ++ more) ≡ first_met b more)
          → cond meets (Some (at_place box place)) (first_met b (placed_in place row ++ more)) ≡ first_met b more
      go true is none later = absurd cc
      go false is none later = later none

  -- In one that does, the first has the place of the row, and the row holds what lies in it.
  pub record IsHeld (place : ℕ) (row : Row) (found : PlacedBox) : Type 0 where
    pub line_is : found.line ≡ place
    pub judgement : Judgement
    pub is : held row b ≡ Some judgement

  in_row : (place : ℕ) (row : Row) (more : List PlacedBox) (found : PlacedBox) → met row b ≡ true
      → first_met b (placed_in place row ++ more) ≡ Some found → box_within b found.region ≡ true → IsHeld place row found
  in_row place [] more found meets is lies = absurd cc
  in_row place (box ∷ row) more found meets is lies =
      go (is_some (box_meet box.region b)) meets is (λ met' is'. in_row place row more found met' is' lies)
    where
      held_here : box_within b box.region ≡ true → IsHeld place (box ∷ row) (at_place box place)
      held_here inside = record {
        line_is = refl;
        judgement = box.judgement;
        is = ap (λ here. cond here (Some box.judgement) (held row b)) inside;
      }

      held_later : (inside : Bool) → box_within b box.region ≡ inside → IsHeld place row found → IsHeld place (box ∷ row) found
      held_later true inside later = record {
        line_is = later.line_is;
        judgement = box.judgement;
        is = ap (λ here. cond here (Some box.judgement) (held row b)) inside;
      }
      held_later false inside later = record {
        line_is = later.line_is;
        judgement = later.judgement;
        is = ap (λ here. cond here (Some box.judgement) (held row b)) inside ∙ later.is;
      }

      go : (hit : Bool) → (hit || met row b) ≡ true
          → cond hit (Some (at_place box place)) (first_met b (placed_in place row ++ more)) ≡ Some found
          → (met row b ≡ true → first_met b (placed_in place row ++ more) ≡ Some found → IsHeld place row found)
          → IsHeld place (box ∷ row) found
      go true some same later =
          let found_is : at_place box place ≡ found = cc in
          subst (λ (p : PlacedBox). IsHeld place (box ∷ row) p) found_is
          (held_here (subst (λ (p : PlacedBox). box_within b p.region ≡ true) (sym found_is) lies))
      go false some same later = held_later (box_within b box.region) refl (later some same)

  -- So the line of the first box of all decides the box.
  pub record IsDecided (place : ℕ) (rows : List Row) (found : PlacedBox) : Type 0 where
    pub index : ℕ
    pub line_is : found.line ≡ place + index
    pub judgement : Judgement
    pub is : decided rows index b ≡ Some judgement

  first-decides : (place : ℕ) (rows : List Row) (found : PlacedBox) → first_met b (placed place rows) ≡ Some found
      → box_within b found.region ≡ true → IsDecided place rows found
  first-decides place [] found is lies = absurd cc
  first-decides place (row ∷ rows) found is lies =
      go (met row b) refl (λ same. first-decides (place + 1) rows found same lies)
    where
      go : (meets : Bool) → met row b ≡ meets → (first_met b (placed (place + 1) rows) ≡ Some found → IsDecided (place + 1) rows found)
          → IsDecided place (row ∷ rows) found
      go true meets later =
          let here = in_row place row (placed (place + 1) rows) found meets is lies in
          record { index = 0; line_is = omega (arith, here.line_is); judgement = here.judgement; is = here.is }
      go false missed later =
          let behind = later (sym (past_row place row (placed (place + 1) rows) missed) ∙ is) in
          record {
            index = suc behind.index;
            line_is = omega (arith, behind.line_is);
            judgement = behind.judgement;
            is = ap (λ meets. cond meets None (decided rows behind.index b)) missed ∙ behind.is;
          }

  pub first-decides_at : (rows : List Row) (found : PlacedBox) → first_met b (placed 1 rows) ≡ Some found → box_within b found.region ≡ true
      → (judgement : Judgement) × (decided_at rows found.line b ≡ Some judgement)
  first-decides_at rows found is lies =
      let decides = first-decides 1 rows found is lies in
      let place : found.line ≡ suc decides.index = omega (arith, decides.line_is) in
      (decides.judgement, ap (λ (line : ℕ). decided_at rows line b) place ∙ decides.is)

  -- Where none meets the box, none has a point of it.
  module _ (x : PointFields) (has : box_has b x ≡ true) where
    lacks_unmet : (region : AnyBox) → meets b region ≡ false → box_has region x ≡ false
    lacks_unmet region missed = go (box_meet region b) missed (box_laws.meet_has region b x)
      where
        neither : (p q : Bool) → q ≡ true → false ≡ (p && q) → p ≡ false
        neither true q is none = sym (none ∙ is)
        neither false q is none = refl

        go : (common : Option AnyBox) → is_some common ≡ false → some_has box_has common x ≡ (box_has region x && box_has b x)
            → box_has region x ≡ false
        go None none same = neither (box_has region x) (box_has b x) has same
        go (Some c) none same = absurd cc

    none_in_row : (place : ℕ) (row : Row) (more : List PlacedBox) → first_met b (placed_in place row ++ more) ≡ None
        → (first_in x row ≡ None) × (first_met b more ≡ None)
    none_in_row place [] more is = (refl, is)
    none_in_row place (box ∷ row) more is = go (meets b box.region) refl is (none_in_row place row more)
      where
        go : (hit : Bool) → meets b box.region ≡ hit
            → ◌≡◌ {A = Option PlacedBox} (cond hit (Some (at_place box place)) (first_met b (placed_in place row ++ more))) None
            → (first_met b (placed_in place row ++ more) ≡ None → (first_in x row ≡ None) × (first_met b more ≡ None))
            → (cond (has_at x box) (Some box.judgement) (first_in x row) ≡ None) × (first_met b more ≡ None)
        go true met none later = absurd cc
        go false missed none later =
            let rest = later none in
            (ap (λ here. cond here (Some box.judgement) (first_in x row)) (lacks_unmet box.region missed) ∙ rest.0, rest.1)

    pub none-lacks : (place : ℕ) (rows : List Row) → first_met b (placed place rows) ≡ None → first_of x rows ≡ None
    none-lacks place [] is = refl
    none-lacks place (row ∷ rows) is =
        let both = none_in_row place row (placed (place + 1) rows) is in
        ap₂ or_else both.0 (none-lacks (place + 1) rows both.1)
