-- What cutting does to the points that regions have.
use Rattle.std.proofs.Common.{◌≡◌, ℕ, ◌+◌, ◌≤◌, Bool, true, false, not, ◌&&◌, ◌||◌, cond, List, [], ◌∷◌, filter, Option, refl, sym, subst, ap, ◌∙◌}
use Rattle.std.proofs.Common.{add-zero, zero-add, arith}
use Rattle.std.specs.List.{All, list_any}
use Rattle.std.proofs.lemmas.Bool.{false≢true}
use Rattle.std.proofs.lemmas.List.Elements.{All-weaker}
use Rattle.sel_region.specs.Cutting.{cut_all, cut_each}
use Rattle.sel_region.specs.Region.{one_if, hits, IsRegion}
use Rattle.sel_region.specs.laws.RegionLemmas.{all_lack-from_hits, hits-append}

-- dropping regions counts no point more often
hits-filter_le : {R P : Type 0} (has : R → P → Bool) (keeps : R → Bool) (rs : List R) (p : P) →
    hits has (filter keeps rs) p ≤ hits has rs p
hits-filter_le has keeps [] p = omega arith
hits-filter_le {R} {P} has keeps (r ∷ rs) p = go (keeps r) (hits-filter_le has keeps rs p)
  where
    go : (kept : Bool) → hits has (filter keeps rs) p ≤ hits has rs p →
        hits has (cond kept (r ∷ filter keeps rs) (filter keeps rs)) p ≤ one_if (has r p) + hits has rs p
    go true le = omega arith
    go false le = omega arith

-- and a point as often as before, where no region that has it is dropped
hits-filter : {R P : Type 0} (has : R → P → Bool) (keeps : R → Bool) (rs : List R) (p : P) →
    ((r : R) → has r p ≡ true → keeps r ≡ true) → hits has (filter keeps rs) p ≡ hits has rs p
hits-filter has keeps [] p kept = refl
hits-filter {R} {P} has keeps (r ∷ rs) p kept =
    go (has r p) refl (keeps r) refl (hits-filter has keeps rs p kept)
  where
    go : (here : Bool) → has r p ≡ here → (stays : Bool) → keeps r ≡ stays →
        hits has (filter keeps rs) p ≡ hits has rs p →
        hits has (cond stays (r ∷ filter keeps rs) (filter keeps rs)) p ≡ one_if here + hits has rs p
    go here e true f rest = rw (e, rest) refl
    go true e false f rest = absurd (false≢true (sym f ∙ kept r e))
    go false e false f rest = rest ∙ sym (zero-add (hits has rs p))

module _ {R P : Type 0}
    {has : R → P → Bool} {at_most : P → P → Bool} {low : R → P}
    {meet : R → R → Option R} {within : R → R → Bool} {minus : R → R → List R}
    (laws : IsRegion has at_most low meet within minus)
  where
    -- where a region is taken from each of a list, its points are gone and all others count as before
    pub hits-cut_each : (pieces : List R) (region : R) (p : P) →
        hits has (cut_each minus pieces region) p ≡ cond (has region p) 0 (hits has pieces p)
    hits-cut_each [] region p = go (has region p)
      where
        go : (gone : Bool) → ◌≡◌ {A = ℕ} 0 (cond gone 0 0)
        go true = refl
        go false = refl
    hits-cut_each (piece ∷ pieces) region p =
        rw (hits-append has (minus piece region), hits-cut_each pieces region p, laws.minus_hits piece region p)
        (go (has piece p) (has region p))
      where
        go : (here gone : Bool) →
            one_if (here && not gone) + cond gone 0 (hits has pieces p) ≡ cond gone 0 (one_if here + hits has pieces p)
        go true true = refl
        go true false = refl
        go false true = refl
        go false false = refl

    -- so are the points of some regions, where each is taken from all
    pub hits-cut_all : (pieces regions : List R) (p : P) →
        hits has (cut_all minus pieces regions) p ≡ cond (list_any (λ r. has r p) regions) 0 (hits has pieces p)
    hits-cut_all pieces [] p = refl
    hits-cut_all pieces (region ∷ regions) p =
        hits-cut_all (cut_each minus pieces region) regions p
        ∙ ap (cond (list_any (λ r. has r p) regions) 0) (hits-cut_each pieces region p)
        ∙ go (has region p) (list_any (λ r. has r p) regions)
      where
        go : (here later : Bool) → cond later 0 (cond here 0 (hits has pieces p)) ≡ cond (here || later) 0 (hits has pieces p)
        go true true = refl
        go true false = refl
        go false true = refl
        go false false = refl

    -- of one region that is cut
    hits-cut_one : (region : R) (regions : List R) (p : P) →
        hits has (cut_all minus (region ∷ []) regions) p ≡ cond (list_any (λ r. has r p) regions) 0 (one_if (has region p))
    hits-cut_one region regions p =
        hits-cut_all (region ∷ []) regions p
        ∙ ap (cond (list_any (λ r. has r p) regions) 0) (add-zero (one_if (has region p)))

    -- a piece of it has a point only where it has it and none of the others does
    pub cut_one-has : (region : R) (regions : List R) (p : P) →
        All (λ piece. has piece p ≡ true → (list_any (λ r. has r p) regions ≡ false) × (has region p ≡ true))
        (cut_all minus (region ∷ []) regions)
    cut_one-has region regions p =
        go (list_any (λ r. has r p) regions) (has region p) (hits-cut_one region regions p)
      where
        none : {some here : Bool} → hits has (cut_all minus (region ∷ []) regions) p ≡ 0 →
            All (λ piece. has piece p ≡ true → (some ≡ false) × (here ≡ true)) (cut_all minus (region ∷ []) regions)
        none {some} {here} zero =
            All-weaker (λ piece. has piece p ≡ false) (λ piece. has piece p ≡ true → (some ≡ false) × (here ≡ true))
            (λ piece lacks h. absurd (false≢true (sym lacks ∙ h)))
            (cut_all minus (region ∷ []) regions)
            (all_lack-from_hits has (cut_all minus (region ∷ []) regions) p zero)

        go : (some here : Bool) → hits has (cut_all minus (region ∷ []) regions) p ≡ cond some 0 (one_if here) →
            All (λ piece. has piece p ≡ true → (some ≡ false) × (here ≡ true)) (cut_all minus (region ∷ []) regions)
        go true here e = none e
        go false false e = none e
        go false true e = λ k d below h. (refl, refl)

    -- and where none that has the point is dropped, it is in one piece, or in none where another has it
    pub hits-kept : (keeps : R → Bool) (region : R) (regions : List R) (p : P) →
        ((r : R) → has r p ≡ true → keeps r ≡ true) →
        hits has (filter keeps (cut_all minus (region ∷ []) regions)) p
        ≡ cond (list_any (λ r. has r p) regions) 0 (one_if (has region p))
    hits-kept keeps region regions p kept =
        hits-filter has keeps (cut_all minus (region ∷ []) regions) p kept ∙ hits-cut_one region regions p

    pub hits-kept_le : (keeps : R → Bool) (region : R) (regions : List R) (p : P) →
        hits has (filter keeps (cut_all minus (region ∷ []) regions)) p
        ≤ cond (list_any (λ r. has r p) regions) 0 (one_if (has region p))
    hits-kept_le keeps region regions p =
        subst (λ (n : ℕ). hits has (filter keeps (cut_all minus (region ∷ []) regions)) p ≤ n)
        (hits-cut_one region regions p)
        (hits-filter_le has keeps (cut_all minus (region ∷ []) regions) p)
