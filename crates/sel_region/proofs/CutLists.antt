-- Lists of regions that are cut: which pieces stay as they are, and one region more.
use Rattle.std.proofs.Common.{◌≡◌, ℕ, suc, ◌+◌, ◌<◌, ◌≤◌, Bool, true, false, not, nat_lt, cond, List, [], ◌∷◌, ◌++◌, length, drop, take, get_or}
use Rattle.std.proofs.Common.{Option, Some, None, IsNone, refl, sym, ap, ap₂, ◌∙◌, arith}
use Rattle.std.specs.List.{position, position_or_len}
use Rattle.std.specs.Option.{is_some}
use Rattle.std.proofs.lemmas.Bool.{false≢true}
use Rattle.std.proofs.lemmas.Option.{same_Some}
use Rattle.std.proofs.lemmas.List.{append-nil, drop_all, take_all, take_more}
use Rattle.std.proofs.lemmas.Bool.Decides.{nat_tests}
use Rattle.sel_region.specs.Cutting.{cut_all, cut_each}
use Rattle.sel_region.specs.Region.{IsRegion}
use Rattle.sel_region.proofs.Loops.{drop_item}

-- one list of regions is taken out, and then another
pub cut_all-append : {R : Type 0} (minus : R → R → List R) (pieces xs ys : List R) →
    cut_all minus pieces (xs ++ ys) ≡ cut_all minus (cut_all minus pieces xs) ys
cut_all-append minus pieces [] ys = refl
cut_all-append minus pieces (x ∷ xs) ys = cut_all-append minus (cut_each minus pieces x) xs ys

-- so the region at an index is taken out of what is left without those before it
pub cut_all-take : {R : Type 0} (minus : R → R → List R) (pieces regions : List R) (i : ℕ) (region : R) →
    i < length regions → region ≡ get_or regions i region →
    cut_each minus (cut_all minus pieces (take i regions)) region ≡ cut_all minus pieces (take (i + 1) regions)
cut_all-take minus pieces regions i region below is =
    ap (cut_each minus (cut_all minus pieces (take i regions))) is
    ∙ sym (cut_all-append minus pieces (take i regions) (get_or regions i region ∷ []))
    ∙ sym (ap (cut_all minus pieces) (take_more regions i region below))

-- and those behind it out of what is left without it
pub cut_all-drop : {R : Type 0} (minus : R → R → List R) (pieces regions : List R) (i : ℕ) (region : R) →
    i < length regions → region ≡ get_or regions i region →
    cut_all minus (cut_each minus pieces region) (drop (i + 1) regions) ≡ cut_all minus pieces (drop i regions)
cut_all-drop minus pieces regions i region below is =
    sym (drop_item (cut_all minus pieces) regions i region below is)

-- there is no value where the test finds none
none_from_test : {X : Type 0} (o : Option X) → is_some o ≡ false → IsNone o
none_from_test None e = refl
none_from_test (Some x) e = absurd (false≢true (sym e))

module _ {R P : Type 0}
    {has : R → P → Bool} {at_most : P → P → Bool} {low : R → P}
    {meet : R → R → Option R} {within : R → R → Bool} {minus : R → R → List R}
    (laws : IsRegion has at_most low meet within minus) (region : R)
  where
    -- the index of the first piece that meets the region, the count of the pieces where none does
    abbrev first_met : List R → ℕ
    first_met pieces = position_or_len (λ piece. is_some (meet piece region)) pieces

    -- nothing is taken out of the pieces before it
    uncut_before : (pieces : List R) →
        take (first_met pieces) pieces ++ cut_each minus (drop (first_met pieces) pieces) region
        ≡ cut_each minus pieces region
    uncut_before [] = refl
    uncut_before (piece ∷ pieces) = go (is_some (meet piece region)) refl (first_met pieces) (uncut_before pieces)
      where
        go : (meets : Bool) → is_some (meet piece region) ≡ meets → (later : ℕ) →
            take later pieces ++ cut_each minus (drop later pieces) region ≡ cut_each minus pieces region →
            let first = cond (not meets) (1 + later) 0 in
            take first (piece ∷ pieces) ++ cut_each minus (drop first (piece ∷ pieces)) region
            ≡ minus piece region ++ cut_each minus pieces region
        go true e later rest = refl
        go false e later rest =
            let one_more : 1 + later ≡ suc later = omega arith in
            rw one_more
            (ap₂ (λ here left. here ++ left) (sym (laws.minus_alone piece region (none_from_test (meet piece region) e))) rest)

    -- where some piece meets the region, only those from the first on are cut; where none does, none is
    pub cut_from_first : (pieces : List R) (first : ℕ) →
        Some first ≡ position (λ piece. is_some (meet piece region)) pieces →
        take first pieces ++ cut_each minus (drop first pieces) region ≡ cut_each minus pieces region
    cut_from_first pieces first found = go (nat_lt (first_met pieces) (length pieces)) found
      where
        go : (some : Bool) → Some first ≡ cond some (Some (first_met pieces)) None →
            take first pieces ++ cut_each minus (drop first pieces) region ≡ cut_each minus pieces region
        go true e = rw (same_Some first (first_met pieces) e) (uncut_before pieces)
        go false e = cc

    pub uncut : (pieces : List R) → None ≡ position (λ piece. is_some (meet piece region)) pieces →
        pieces ≡ cut_each minus pieces region
    uncut pieces none = go (nat_lt (first_met pieces) (length pieces)) refl none
      where
        go : (some : Bool) → nat_lt (first_met pieces) (length pieces) ≡ some →
            None ≡ cond some (Some (first_met pieces)) None → pieces ≡ cut_each minus pieces region
        go true past e = cc
        go false past e =
            let all : length pieces ≤ first_met pieces = grind (arith, nat_tests) in
            sym (append-nil pieces)
            ∙ ap₂ (λ kept cut. kept ++ cut_each minus cut region)
            (sym (take_all (first_met pieces) pieces all)) (sym (drop_all (first_met pieces) pieces all))
            ∙ uncut_before pieces
