-- Regions that are passed over: none of them meets a piece, and none changes a count.
use Rattle.std.proofs.Common.{◌≡◌, ℕ, ◌+◌, ◌<◌, ◌≤◌, Bool, true, false, nat_lt, ◌||◌, not, List, [], ◌∷◌, ◌++◌, length, drop, get_or, Option, IsNone}
use Rattle.std.proofs.Common.{refl, sym, subst, ap, ap₂, ◌∙◌, arith}
use Rattle.std.specs.List.{All, list_any}
use Rattle.std.proofs.lemmas.Bool.{and_parts}
use Rattle.std.proofs.lemmas.Bool.Decides.{nat_tests}
use Rattle.std.proofs.lemmas.List.Elements.{All-append, All-cons, All-head, All-nil, All-tail}
use Rattle.sel_region.specs.Cutting.{cut_all, cut_each}
use Rattle.sel_region.specs.Region.{IsRegion}
use Rattle.sel_region.proofs.CutLists.{cut_all-append}
use Rattle.sel_region.proofs.Loops.{drop_item}
use Rattle.sel_region.proofs.Regions.{meet_comm, within-by_points}
use Rattle.sel_blocks.specs.Joined.{joined}
use Rattle.sel_blocks.proofs.Hulls.{all_apart, uncut-by_apart}
use Rattle.spd_cut.specs.declared.fault.CutFault.{CutFault}
use Rattle.spd_cut.specs.Steps.{counts_of, passes}
use Rattle.spd_cut.specs.inner.Cut.{IsLineFault}
use Rattle.spd_cut.proofs.Loops.{not_below}

-- Of tests of which one has to pass.
or_again : (x y : Bool) → (x || (x || y)) ≡ (x || y)
or_again true y = refl
or_again false y = refl

or_assoc : (x y z : Bool) → (x || (y || z)) ≡ ((x || y) || z)
or_assoc true y z = refl
or_assoc false y z = refl

or_first : (x y : Bool) → x ≡ true → (x || y) ≡ true
or_first x y e = ap (λ b. b || y) e

or_later : (x y : Bool) → y ≡ true → (x || y) ≡ true
or_later true y e = refl
or_later false y e = e

-- A count above the limit passes it.
is_below : (limit n : ℕ) → limit < n → nat_lt limit n ≡ true
is_below limit n below = grind (arith, nat_tests)

-- the first count is that of the pieces as they are, so that it may come once more
pub passes-again : {R : Type 0} (minus : R → R → List R) (limit done : ℕ) (pieces earlier : List R) →
    (nat_lt limit (done + length pieces) || passes limit (counts_of minus done pieces earlier)) ≡ passes limit (counts_of minus done pieces earlier)
passes-again minus limit done pieces [] = or_again (nat_lt limit (done + length pieces)) false
passes-again minus limit done pieces (e ∷ earlier) =
    or_again (nat_lt limit (done + length pieces)) (passes limit (counts_of minus done (cut_each minus pieces e) earlier))

pub passes-first : {R : Type 0} (minus : R → R → List R) (limit done : ℕ) (pieces earlier : List R) → limit < done + length pieces →
    passes limit (counts_of minus done pieces earlier) ≡ true
passes-first minus limit done pieces earlier passed =
    sym (passes-again minus limit done pieces earlier) ∙ or_first _ _ (is_below limit (done + length pieces) passed)

-- some count passes where that behind the region at an index does
pub passes-behind : {R : Type 0} (minus : R → R → List R) (limit done : ℕ) (pieces earlier : List R) (i : ℕ) (region : R) →
    i < length earlier → region ≡ get_or earlier i region → nat_lt limit (done + length (cut_each minus pieces region)) ≡ true →
    passes limit (counts_of minus done pieces (drop i earlier)) ≡ true
passes-behind minus limit done pieces earlier i region below is some =
    drop_item (λ rest. passes limit (counts_of minus done pieces rest)) earlier i region below is
    ∙ or_later (nat_lt limit (done + length pieces)) _
    (sym (passes-again minus limit done (cut_each minus pieces region) (drop (i + 1) earlier)) ∙ or_first _ _ some)

-- where nothing is left, nothing comes of it, and no count passes
cut_all-nothing : {R : Type 0} (minus : R → R → List R) (earlier : List R) → cut_all minus [] earlier ≡ []
cut_all-nothing minus [] = refl
cut_all-nothing minus (e ∷ earlier) = cut_all-nothing minus earlier

pub cut_all-of_nothing : {R : Type 0} (minus : R → R → List R) (pieces earlier : List R) → pieces ≡ [] → pieces ≡ cut_all minus pieces earlier
cut_all-of_nothing minus pieces earlier none =
    none ∙ sym (ap (λ left. cut_all minus left earlier) none ∙ cut_all-nothing minus earlier)

passes-nothing : {R : Type 0} (minus : R → R → List R) (limit done : ℕ) (earlier : List R) → done ≤ limit →
    passes limit (counts_of minus done [] earlier) ≡ false
passes-nothing minus limit done [] within = ap (λ here. here || false) (not_below limit (done + 0) (omega (arith, within)))
passes-nothing minus limit done (e ∷ earlier) within =
    ap₂ (λ here later. here || later) (not_below limit (done + 0) (omega (arith, within))) (passes-nothing minus limit done earlier within)

pub passes-of_nothing : {R : Type 0} (minus : R → R → List R) (limit done : ℕ) (pieces earlier : List R) → pieces ≡ [] →
    done + length pieces ≤ limit → passes limit (counts_of minus done pieces earlier) ≡ false
passes-of_nothing minus limit done pieces earlier none within =
    ap (λ left. passes limit (counts_of minus done left earlier)) none ∙ passes-nothing minus limit done earlier (omega (arith, within))

-- what is known of a fault where some count passes
pub IsLineFault-more : (p q : Bool) (line : ℕ) (fault : CutFault) → (p ≡ true → q ≡ true) → IsLineFault p line fault → IsLineFault q line fault
IsLineFault-more p q line (CutFault.Limit at) more says = (says.0, more says.1)
IsLineFault-more p q line CutFault.NoMemory more says = tt

pub IsLineFault-at : (p : Bool) (line : ℕ) (fault : CutFault) → fault ≡ CutFault.Limit line → p ≡ true → IsLineFault p line fault
IsLineFault-at p line fault is passed = subst (λ (f : CutFault). IsLineFault p line f) (sym is) (refl, passed)

-- some count passes by the earlier regions where one does by the first of them, or by the others behind those
pub passes-append : {R : Type 0} (minus : R → R → List R) (limit done : ℕ) (pieces xs ys : List R) →
    passes limit (counts_of minus done pieces (xs ++ ys))
    ≡ (passes limit (counts_of minus done pieces xs) || passes limit (counts_of minus done (cut_all minus pieces xs) ys))
passes-append minus limit done pieces [] ys =
    sym (passes-again minus limit done pieces ys)
    ∙ or_assoc (nat_lt limit (done + length pieces)) false (passes limit (counts_of minus done pieces ys))
passes-append minus limit done pieces (x ∷ xs) ys =
    ap (λ later. nat_lt limit (done + length pieces) || later) (passes-append minus limit done (cut_each minus pieces x) xs ys)
    ∙ or_assoc (nat_lt limit (done + length pieces)) (passes limit (counts_of minus done (cut_each minus pieces x) xs))
    (passes limit (counts_of minus done (cut_all minus (cut_each minus pieces x) xs) ys))

module _ {R P : Type 0}
    {has : R → P → Bool} {at_most : P → P → Bool} {low : R → P}
    {meet : R → R → Option R} {within : R → R → Bool} {minus : R → R → List R}
    (laws : IsRegion has at_most low meet within minus)
  where
    within-by_any : (whole : R) (rs : List R) → ((p : P) → list_any (λ r. has r p) rs ≡ true → has whole p ≡ true) →
        All (λ r. within r whole ≡ true) rs
    within-by_any whole [] inside = All-nil (λ r. within r whole ≡ true)
    within-by_any whole (r ∷ rs) inside =
        All-cons (λ r. within r whole ≡ true) r rs
        ((within-by_points laws r whole).1 (λ p h. inside p (or_first (has r p) (list_any (λ r. has r p) rs) h)))
        (within-by_any whole rs (λ p h. inside p (or_later (has r p) (list_any (λ r. has r p) rs) h)))

    -- what is left of pieces within a region is within it
    pub within-cut_each : (whole : R) (pieces : List R) (region : R) → All (λ r. within r whole ≡ true) pieces →
        All (λ r. within r whole ≡ true) (cut_each minus pieces region)
    within-cut_each whole [] region inside = All-nil (λ r. within r whole ≡ true)
    within-cut_each whole (piece ∷ pieces) region inside =
        All-append (λ r. within r whole ≡ true) (minus piece region) (cut_each minus pieces region)
        (within-by_any whole (minus piece region) (λ p some.
        (within-by_points laws piece whole).0 (All-head (λ r. within r whole ≡ true) piece pieces inside) p
        (and_parts (has piece p) (not (has region p)) (sym (laws.minus_has piece region p) ∙ some)).0))
        (within-cut_each whole pieces region (All-tail (λ r. within r whole ≡ true) piece pieces inside))

    pub within-cut_all : (whole : R) (pieces regions : List R) → All (λ r. within r whole ≡ true) pieces →
        All (λ r. within r whole ≡ true) (cut_all minus pieces regions)
    within-cut_all whole pieces [] inside = inside
    within-cut_all whole pieces (region ∷ regions) inside =
        within-cut_all whole (cut_each minus pieces region) regions (within-cut_each whole pieces region inside)

    -- a region that doesn't meet the whole takes nothing from pieces within it
    pub passed_over : (whole : R) (pieces : List R) (region : R) → All (λ r. within r whole ≡ true) pieces → IsNone (meet region whole) →
        cut_each minus pieces region ≡ pieces
    passed_over whole pieces region inside apart =
        uncut-by_apart laws pieces region
        (all_apart laws pieces whole region inside (subst (λ (o : Option R). IsNone o) (meet_comm laws region whole) apart))

    pub passed_over_all : (whole : R) (pieces regions : List R) → All (λ r. within r whole ≡ true) pieces →
        All (λ r. IsNone (meet r whole)) regions → cut_all minus pieces regions ≡ pieces
    passed_over_all whole pieces [] inside apart = refl
    passed_over_all whole pieces (region ∷ regions) inside apart =
        ap (λ left. cut_all minus left regions) (passed_over whole pieces region inside (All-head (λ r. IsNone (meet r whole)) region regions apart))
        ∙ passed_over_all whole pieces regions inside (All-tail (λ r. IsNone (meet r whole)) region regions apart)

    -- nor does it make a count that passes
    pub none_passes-over_all : (limit done : ℕ) (whole : R) (pieces regions : List R) → All (λ r. within r whole ≡ true) pieces →
        All (λ r. IsNone (meet r whole)) regions → done + length pieces ≤ limit →
        passes limit (counts_of minus done pieces regions) ≡ false
    none_passes-over_all limit done whole pieces [] inside apart within_limit =
        ap (λ here. here || false) (not_below limit (done + length pieces) within_limit)
    none_passes-over_all limit done whole pieces (region ∷ regions) inside apart within_limit =
        ap₂ (λ here later. here || later) (not_below limit (done + length pieces) within_limit)
        (ap (λ left. passes limit (counts_of minus done left regions))
        (passed_over whole pieces region inside (All-head (λ r. IsNone (meet r whole)) region regions apart))
        ∙ none_passes-over_all limit done whole pieces regions inside (All-tail (λ r. IsNone (meet r whole)) region regions apart) within_limit)

-- the regions of a block come before those of the blocks behind it
pub cut_all-block : {R : Type 0} (minus : R → R → List R) (pieces : List R) (blocks : List (List R)) (i : ℕ) (block : List R) →
    i < length blocks → block ≡ get_or blocks i block →
    cut_all minus (cut_all minus pieces block) (joined (drop (i + 1) blocks)) ≡ cut_all minus pieces (joined (drop i blocks))
cut_all-block minus pieces blocks i block below is =
    sym (drop_item (λ left. cut_all minus pieces (joined left)) blocks i block below is
    ∙ cut_all-append minus pieces block (joined (drop (i + 1) blocks)))

passes-block : {R : Type 0} (minus : R → R → List R) (limit done : ℕ) (pieces : List R) (blocks : List (List R)) (i : ℕ) (block : List R) →
    i < length blocks → block ≡ get_or blocks i block →
    passes limit (counts_of minus done pieces (joined (drop i blocks)))
    ≡ (passes limit (counts_of minus done pieces block)
    || passes limit (counts_of minus done (cut_all minus pieces block) (joined (drop (i + 1) blocks))))
passes-block minus limit done pieces blocks i block below is =
    drop_item (λ left. passes limit (counts_of minus done pieces (joined left))) blocks i block below is
    ∙ passes-append minus limit done pieces block (joined (drop (i + 1) blocks))

pub passes-later_block : {R : Type 0} (minus : R → R → List R) (limit done : ℕ) (pieces : List R) (blocks : List (List R)) (i : ℕ) (block : List R) →
    i < length blocks → block ≡ get_or blocks i block → passes limit (counts_of minus done pieces block) ≡ false →
    passes limit (counts_of minus done (cut_all minus pieces block) (joined (drop (i + 1) blocks)))
    ≡ passes limit (counts_of minus done pieces (joined (drop i blocks)))
passes-later_block minus limit done pieces blocks i block below is none =
    sym (passes-block minus limit done pieces blocks i block below is
    ∙ ap (λ here. here || passes limit (counts_of minus done (cut_all minus pieces block) (joined (drop (i + 1) blocks)))) none)

pub passes-this_block : {R : Type 0} (minus : R → R → List R) (limit done : ℕ) (pieces : List R) (blocks : List (List R)) (i : ℕ) (block : List R) →
    i < length blocks → block ≡ get_or blocks i block → passes limit (counts_of minus done pieces block) ≡ true →
    passes limit (counts_of minus done pieces (joined (drop i blocks))) ≡ true
passes-this_block minus limit done pieces blocks i block below is some =
    passes-block minus limit done pieces blocks i block below is ∙ or_first _ _ some
