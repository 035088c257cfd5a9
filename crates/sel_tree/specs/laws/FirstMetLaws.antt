-- What follows from the definition of the first box that meets another.
use Rattle.std.proofs.Common.{◌≡◌, ℕ, ◌+◌, ◌-◌, ◌<◌, ◌≤◌, zero, suc, Bool, true, false, cond, List, [], ◌∷◌, length, drop, get_or, Option, Some, None}
use Rattle.std.proofs.Common.{inl, inr, refl, sym, ap, subst, ◌∙◌, arith}
use Rattle.std.specs.List.{position_from}
use Rattle.std.proofs.lemmas.Bool.{cases_lt}
use Rattle.std.proofs.lemmas.List.{get_or-drop, get_or_default, length-drop}
use Rattle.std.proofs.lemmas.Option.{get_or_from_slice_get, slice_get-get_or}
use Rattle.sel_box.specs.declared.any_box.AnyBox.{AnyBox}
use Rattle.sel_tree.specs.FirstMet.{IsFirstMet, NoneMet, first_met_from, meets}

-- The first place of a list at which a test passes, counted from an index.

-- the test passes at a place, at which it is counted from the index, and at none before
record PassesFirst {A : Type 0} (test : A → Bool) (xs : List A) (from index : ℕ) : Type 0 where
  place : ℕ
  counted : index ≡ from + place
  within : place < length xs
  here : (d : A) → test (get_or xs place d) ≡ true
  before : (k : ℕ) (d : A) → k < place → test (get_or xs k d) ≡ false

first-from_Some : {A : Type 0} (test : A → Bool) (xs : List A) (from index : ℕ) →
    position_from test from xs ≡ Some index → PassesFirst test xs from index
first-from_Some test [] from index is = cc
first-from_Some {A} test (x ∷ xs) from index is = go (first-from_Some test xs (from + 1) index) (test x) refl is
  where
    go : (position_from test (from + 1) xs ≡ Some index → PassesFirst test xs (from + 1) index) →
        (here : Bool) → test x ≡ here → cond here (Some from) (position_from test (from + 1) xs) ≡ Some index →
        PassesFirst test (x ∷ xs) from index
    go rest true passes e = record {
      place = 0;
      counted = omega (arith, inner e);
      within = omega arith;
      here = λ d. passes;
      before = λ k d below. absurd (omega arith);
    }
      where
        inner : ◌≡◌ {A = Option ℕ} (Some from) (Some index) → from ≡ index
        inner same = cc
    go rest false fails e =
        let later = rest e in
        record {
          place = suc later.place;
          counted = omega (arith, later.counted);
          within = omega (arith, later.within);
          here = later.here;
          before = before later;
        }
      where
        before : (later : PassesFirst test xs (from + 1) index) → (k : ℕ) (d : A) → k < suc later.place → test (get_or (x ∷ xs) k d) ≡ false
        before later zero d below = fails
        before later (suc k) d below = later.before k d (omega arith)

nowhere-from_None : {A : Type 0} (test : A → Bool) (xs : List A) (from : ℕ) →
    position_from test from xs ≡ None → (k : ℕ) (d : A) → k < length xs → test (get_or xs k d) ≡ false
nowhere-from_None test [] from is k d below = absurd (omega arith)
nowhere-from_None {A} test (x ∷ xs) from is k d below = go (nowhere-from_None test xs (from + 1)) (test x) refl is k below
  where
    go : (position_from test (from + 1) xs ≡ None → (k : ℕ) (d : A) → k < length xs → test (get_or xs k d) ≡ false) →
        (here : Bool) → test x ≡ here → ◌≡◌ {A = Option ℕ} (cond here (Some from) (position_from test (from + 1) xs)) None →
        (k : ℕ) → k < length (x ∷ xs) → test (get_or (x ∷ xs) k d) ≡ false
    go rest true passes e k below = cc
    go rest false fails e zero below = fails
    go rest false fails e (suc k) below = rest e k d (omega arith)

None-from_nowhere : {A : Type 0} (test : A → Bool) (xs : List A) (from : ℕ) →
    ((k : ℕ) (d : A) → k < length xs → test (get_or xs k d) ≡ false) → position_from test from xs ≡ None
None-from_nowhere test [] from fails = refl
None-from_nowhere test (x ∷ xs) from fails =
    ap (λ here. cond here (Some from) (position_from test (from + 1) xs)) (fails 0 x (omega arith))
    ∙ None-from_nowhere test xs (from + 1) (λ k d below. fails (suc k) d (omega arith))

Some-from_first : {A : Type 0} (test : A → Bool) (xs : List A) (from place : ℕ) (d : A) → place < length xs →
    test (get_or xs place d) ≡ true → ((k : ℕ) (d : A) → k < place → test (get_or xs k d) ≡ false) →
    position_from test from xs ≡ Some (from + place)
Some-from_first test [] from place d within here before = absurd (omega arith)
Some-from_first test (x ∷ xs) from zero d within here before =
    ap (λ passes. cond passes (Some from) (position_from test (from + 1) xs)) here
    ∙ ap Some (omega arith)
Some-from_first test (x ∷ xs) from (suc place) d within here before =
    ap (λ passes. cond passes (Some from) (position_from test (from + 1) xs)) (before 0 x (omega arith))
    ∙ Some-from_first test xs (from + 1) place d (omega arith) here (λ k d below. before (suc k) d (omega arith))
    ∙ ap Some (omega arith)

-- The first box, from an index on, that meets another.

pub Some-from_met : (from : ℕ) (region : AnyBox) (regions : List AnyBox) (index : ℕ) (d : AnyBox) →
    from ≤ index → index < length regions → meets region (get_or regions index d) ≡ true → NoneMet from index region regions →
    first_met_from from region regions ≡ Some index
Some-from_met from region regions index d after within met none =
    let place : ℕ = index - from in
    let same : from + place ≡ index = omega arith in
    Some-from_first (meets region) (drop from regions) from place d
    (omega (arith, length-drop from regions))
    (ap (meets region) (get_or-drop from regions place d ∙ ap (λ n. get_or regions n d) same) ∙ met)
    (λ k d below. ap (meets region) (get_or-drop from regions k d) ∙ none (from + k) d (omega arith) (omega arith))
    ∙ ap Some same

pub None-from_none_met : (from : ℕ) (region : AnyBox) (regions : List AnyBox) → NoneMet from (length regions) region regions →
    first_met_from from region regions ≡ None
None-from_none_met from region regions none =
    None-from_nowhere (meets region) (drop from regions) from
    (λ k d below. ap (meets region) (get_or-drop from regions k d) ∙ none (from + k) d (omega arith) (omega (arith, length-drop from regions)))

pub found-is_first : (from : ℕ) (region : AnyBox) (regions : List AnyBox) (index : ℕ) →
    first_met_from from region regions ≡ Some index → IsFirstMet from region regions index
found-is_first from region regions index is =
    let first = first-from_Some (meets region) (drop from regions) from index is in
    let length_is = length-drop from regions in
    let within : index < length regions = omega (arith, first.within, first.counted) in
    let at : (d : AnyBox) → get_or (drop from regions) first.place d ≡ get_or regions index d =
    λ d. get_or-drop from regions first.place d ∙ ap (λ n. get_or regions n d) (sym first.counted) in
    record {
      after = omega (arith, first.counted);
      within = within;
      met = λ other there. subst (λ (r : AnyBox). meets region r ≡ true) (at other ∙ get_or_from_slice_get regions index other other there) (first.here other);
      none_before = λ k d low high. subst (λ (r : AnyBox). meets region r ≡ false)
          (get_or-drop from regions (k - from) d ∙ ap (λ n. get_or regions n d) (omega arith))
          (first.before (k - from) d (omega (arith, first.counted)));
    }

pub first-is_found : (from : ℕ) (region : AnyBox) (regions : List AnyBox) (index : ℕ) →
    IsFirstMet from region regions index → first_met_from from region regions ≡ Some index
first-is_found from region regions index first =
    Some-from_met from region regions index region first.after first.within
    (first.met (get_or regions index region) (slice_get-get_or regions index region first.within)) first.none_before

pub none-is_none_met : (from : ℕ) (region : AnyBox) (regions : List AnyBox) →
    first_met_from from region regions ≡ None → NoneMet from (length regions) region regions
none-is_none_met from region regions is = λ k d low high.
    let length_is = length-drop from regions in
    subst (λ (r : AnyBox). meets region r ≡ false)
    (get_or-drop from regions (k - from) d ∙ ap (λ n. get_or regions n d) (omega arith))
    (nowhere-from_None (meets region) (drop from regions) from is (k - from) d (omega arith))
