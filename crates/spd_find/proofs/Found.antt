-- Where a box is found.
use Rattle.std.proofs.Common.{◌≡◌, ℕ, ◌<◌, ◌≤◌, Bool, true, false, ◌&&◌, cond, nat_lt, List, [], ◌∷◌, length, get_or, Option, Some, None, refl, sym}
use Rattle.std.proofs.Common.{ap, ◌∙◌, arith}
use Rattle.std.specs.List.{All, AllPairs, position_or_len}
use Rattle.std.proofs.lemmas.Bool.{lt-ltb, ltb-false}
use Rattle.std.proofs.lemmas.List.Quantifiers.{position-Some}
use Rattle.std.proofs.lemmas.List.Sums.{fails_before_first, position_or_len_is}
use Rattle.std.proofs.lemmas.Option.{get_or_from_slice_get, slice_get-get_or, slice_get_within}
use Rattle.sel_region.specs.Region.{AreApart}
use Rattle.sel_box.specs.declared.any_box.AnyBox.{AnyBox}
use Rattle.sel_box.specs.Boxes.{box_has}
use Rattle.sel_box.specs.Point.{PointFields}
use Rattle.spd_find.specs.Finding.{HasAt, index_of}

-- None is the first where there are only so many as fail before it.
past_the_last : (n last : ℕ) → ◌≡◌ {A = Option ℕ} (cond (nat_lt n last) (Some n) None) None → last ≤ n
past_the_last n last none = go (nat_lt n last) refl none
  where
    go : (here : Bool) → nat_lt n last ≡ here → ◌≡◌ {A = Option ℕ} (cond here (Some n) None) None → last ≤ n
    go true is e = cc
    go false is e = ltb-false n last is

-- Of two that aren't both true, the first is false where the second is true.
first_false : (a b : Bool) → (a && b) ≡ false → b ≡ true → a ≡ false
first_false true b e f = sym f ∙ e
first_false false b e f = refl

module _ (x : PointFields) where
  abbrev has : AnyBox → Bool
  has region = box_has region x

  pub found_has : (boxes : List AnyBox) (index : ℕ) → index_of x boxes ≡ Some index → HasAt x boxes index
  found_has [] index is = cc
  found_has (region ∷ regions) index is =
      let found = position-Some has (region ∷ regions) index region is in
      record {
        region = get_or (region ∷ regions) index region;
        at = slice_get-get_or (region ∷ regions) index region found.0;
        has = found.1;
      }

  pub none_has : (boxes : List AnyBox) → index_of x boxes ≡ None → All (λ region. box_has region x ≡ false) boxes
  none_has boxes none = λ k d below.
      let past = past_the_last (position_or_len has boxes) (length boxes) none in
      fails_before_first has boxes k d (omega arith)

  pub one_found : (boxes : List AnyBox) (index : ℕ) → AllPairs (AreApart box_has) boxes → HasAt x boxes index → index_of x boxes ≡ Some index
  one_found boxes index apart at =
      let within : index < length boxes = slice_get_within boxes index at.region at.at in
      let there : get_or boxes index at.region ≡ at.region = get_or_from_slice_get boxes index at.region at.region at.at in
      let here : has (get_or boxes index at.region) ≡ true = ap has there ∙ at.has in
      let first : position_or_len has boxes ≡ index =
      position_or_len_is has boxes index at.region (omega arith)
      (λ k before. first_false (has (get_or boxes k at.region)) (has (get_or boxes index at.region)) (apart k index at.region before within x) here)
      (λ _. here) in
      ap (λ (n : ℕ). cond (nat_lt n (length boxes)) (Some n) None) first
      ∙ ap (λ (below : Bool). cond below (Some index) None) (lt-ltb index (length boxes) within)
