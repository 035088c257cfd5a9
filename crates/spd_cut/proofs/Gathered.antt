-- Cutting regions of any kind by those before them, and what it does to the points that they have.
use Rattle.std.proofs.Common.{◌≡◌, ℕ, ◌+◌, ◌≤◌, Bool, true, false, ◌||◌, cond, List, [], ◌∷◌, ◌++◌, map, filter, Option, refl, sym, subst, ap, ap₂}
use Rattle.std.proofs.Common.{◌∙◌, add-zero, zero-add, arith}
use Rattle.std.specs.List.{All, count_by, list_any}
use Rattle.std.proofs.lemmas.List.Elements.{All-append, All-filter, All-head, All-map, All-nil, All-tail, All-weaker, filter_passes}
use Rattle.std.proofs.lemmas.List.Folds.{list_any-append}
use Rattle.std.proofs.lemmas.List.Recursion.{is_count_by}
use Rattle.sel_region.specs.Cutting.{cut_all}
use Rattle.sel_region.specs.Region.{one_if, hits, IsRegion}
use Rattle.sel_region.specs.laws.RegionLemmas.{hits-append, hits-map}
use Rattle.sel_region.proofs.CutPoints.{cut_one-has, hits-kept, hits-kept_le}
use Rattle.spd_cut.proofs.Loops.{both_false}

-- The pieces that each of some items adds to those before it, where an item has a region and is made
-- again for each piece of it.
abbrev pub gathered : {E R : Type 0} → (E → R) → (E → R → E) → (R → R → List R) → (R → Bool) → List R → List E → List E
gathered region make minus keeps earlier [] = []
gathered region make minus keeps earlier (item ∷ items) =
    map (make item) (filter keeps (cut_all minus (region item ∷ []) earlier))
    ++ gathered region make minus keeps (earlier ++ region item ∷ []) items

-- What the first item answers whose region has the point.
abbrev pub first_answer : {E V : Type 0} → (E → Bool) → (E → V) → V → List E → V
first_answer has answer otherwise [] = otherwise
first_answer has answer otherwise (item ∷ items) =
    cond (has item) (answer item) (first_answer has answer otherwise items)

-- how many have a point, in the library's word
pub hits-count : {E P : Type 0} (has : E → P → Bool) (es : List E) (p : P) → hits has es p ≡ count_by (λ e. has e p) es
hits-count {E} {P} has es p =
    is_count_by (λ es. hits has es p) (λ e. has e p) refl (λ e es. go (has e p) (hits has es p)) es
  where
    go : (here : Bool) (n : ℕ) → one_if here + n ≡ cond here (1 + n) n
    go true n = refl
    go false n = zero-add n

-- a test of a list in which one more stands at the end
list_any-push : {X : Type 0} (test : X → Bool) (xs : List X) (x : X) →
    list_any test (xs ++ x ∷ []) ≡ (list_any test xs || test x)
list_any-push test xs x = list_any-append test xs (x ∷ []) ∙ go (list_any test xs) (test x)
  where
    go : (some here : Bool) → (some || (here || false)) ≡ (some || here)
    go some here = grind arith

module _ {R P E : Type 0}
    {has : R → P → Bool} {at_most : P → P → Bool} {low : R → P}
    {meet : R → R → Option R} {within : R → R → Bool} {minus : R → R → List R}
    (laws : IsRegion has at_most low meet within minus)
    (region : E → R) (make : E → R → E) (keeps : R → Bool) (made : (e : E) (r : R) → region (make e r) ≡ r)
  where
    -- an item has a point where its region has it
    abbrev item_has : E → P → Bool
    item_has e p = has (region e) p

    abbrev some_earlier : List R → P → Bool
    some_earlier earlier p = list_any (λ r. has r p) earlier

    -- the pieces that an item adds, and the items that are made of them
    abbrev pieces : List R → E → List R
    pieces earlier e = filter keeps (cut_all minus (region e ∷ []) earlier)

    abbrev added : List R → E → List E
    added earlier e = map (make e) (pieces earlier e)

    abbrev all : List R → List E → List E
    all earlier items = gathered region make minus keeps earlier items

    hits-made : (p : P) (e : E) (rs : List R) → hits item_has (map (make e) rs) p ≡ hits has rs p
    hits-made p e rs = hits-map has item_has (make e) p p true (λ r. ap (λ r. has r p) (made e r)) rs

    hits-all : (p : P) (earlier : List R) (e : E) (items : List E) →
        hits item_has (all earlier (e ∷ items)) p ≡ hits has (pieces earlier e) p + hits item_has (all (earlier ++ region e ∷ []) items) p
    hits-all p earlier e items =
        hits-append item_has (added earlier e) (all (earlier ++ region e ∷ []) items) p
        ∙ ap (λ n. n + hits item_has (all (earlier ++ region e ∷ []) items) p) (hits-made p e (pieces earlier e))

    -- no point is in two of the gathered items, and none in one that an earlier region has
    pub hits-gathered_le : (p : P) (earlier : List R) (items : List E) →
        hits item_has (all earlier items) p ≤ cond (some_earlier earlier p) 0 1
    hits-gathered_le p earlier [] = omega arith
    hits-gathered_le p earlier (e ∷ items) =
        rw (hits-all p earlier e items)
        (go (some_earlier earlier p) (has (region e) p) (hits-kept_le laws keeps (region e) earlier p)
        (subst (λ (some : Bool). hits item_has (all (earlier ++ region e ∷ []) items) p ≤ cond some 0 1)
        (list_any-push (λ r. has r p) earlier (region e)) (hits-gathered_le p (earlier ++ region e ∷ []) items)))
      where
        go : (some here : Bool) {n m : ℕ} → n ≤ cond some 0 (one_if here) → m ≤ cond (some || here) 0 1 → n + m ≤ cond some 0 1
        go true here a b = omega arith
        go false true a b = omega arith
        go false false a b = omega arith

    -- a point of which no region is dropped is in one of them exactly where it is in an item's region and in no earlier one
    pub hits-gathered : (p : P) → ((r : R) → has r p ≡ true → keeps r ≡ true) → (earlier : List R) (items : List E) →
        hits item_has (all earlier items) p ≡ cond (some_earlier earlier p) 0 (one_if (list_any (λ e. has (region e) p) items))
    hits-gathered p kept earlier [] = go (some_earlier earlier p)
      where
        go : (some : Bool) → ◌≡◌ {A = ℕ} 0 (cond some 0 0)
        go true = refl
        go false = refl
    hits-gathered p kept earlier (e ∷ items) =
        hits-all p earlier e items
        ∙ ap₂ (λ n m. n + m)
        (hits-kept laws keeps (region e) earlier p kept)
        (hits-gathered p kept (earlier ++ region e ∷ []) items
        ∙ ap (λ some. cond some 0 (one_if (list_any (λ e. has (region e) p) items))) (list_any-push (λ r. has r p) earlier (region e)))
        ∙ go (some_earlier earlier p) (has (region e) p) (list_any (λ e. has (region e) p) items)
      where
        go : (some here later : Bool) →
            cond some 0 (one_if here) + cond (some || here) 0 (one_if later) ≡ cond some 0 (one_if (here || later))
        go true here later = refl
        go false true later = add-zero 1
        go false false later = zero-add (one_if later)

    -- each of them has a region that isn't dropped
    pub gathered-kept : (earlier : List R) (items : List E) → All (λ e. keeps (region e) ≡ true) (all earlier items)
    gathered-kept earlier [] = All-nil (λ e. keeps (region e) ≡ true)
    gathered-kept earlier (e ∷ items) =
        All-append (λ e. keeps (region e) ≡ true) (added earlier e) (all (earlier ++ region e ∷ []) items)
        (All-map (λ e. keeps (region e) ≡ true) (make e) (pieces earlier e)
        (All-weaker (λ r. keeps r ≡ true) (λ r. keeps (region (make e r)) ≡ true) (λ r h. ap keeps (made e r) ∙ h)
        (pieces earlier e) (filter_passes keeps (cut_all minus (region e ∷ []) earlier))))
        (gathered-kept (earlier ++ region e ∷ []) items)

    module _ {V : Type 0} (answer : E → V) (same : (e : E) (r : R) → answer (make e r) ≡ answer e) where
      -- what holds of each item's answer holds of theirs
      pub gathered-answers : (Q : V → Type 0) (earlier : List R) (items : List E) →
          All (λ e. Q (answer e)) items → All (λ e. Q (answer e)) (all earlier items)
      gathered-answers Q earlier [] every = every
      gathered-answers Q earlier (e ∷ items) every =
          All-append (λ e. Q (answer e)) (added earlier e) (all (earlier ++ region e ∷ []) items)
          (All-map (λ e. Q (answer e)) (make e) (pieces earlier e)
          (λ k d below. subst Q (sym (same e _)) (All-head (λ e. Q (answer e)) e items every)))
          (gathered-answers Q (earlier ++ region e ∷ []) items (All-tail (λ e. Q (answer e)) e items every))

      -- an item that has the point answers as the first of some items, and no earlier region has it
      abbrev pub AnswersFirst : P → V → List R → List E → E → Type 0
      AnswersFirst p otherwise earlier items e = has (region e) p ≡ true →
          (some_earlier earlier p ≡ false) × (answer e ≡ first_answer (λ e. has (region e) p) answer otherwise items)

      -- where one of them has a point, it answers as the first item does that has it
      pub gathered-first : (p : P) (otherwise : V) (earlier : List R) (items : List E) →
          All (AnswersFirst p otherwise earlier items) (all earlier items)
      gathered-first p otherwise earlier [] = λ k d below. absurd (omega arith)
      gathered-first p otherwise earlier (e ∷ items) =
          All-append (AnswersFirst p otherwise earlier (e ∷ items)) (added earlier e) (all (earlier ++ region e ∷ []) items)
          (All-map (AnswersFirst p otherwise earlier (e ∷ items)) (make e) (pieces earlier e)
          (All-filter keeps (λ r. AnswersFirst p otherwise earlier (e ∷ items) (make e r)) (cut_all minus (region e ∷ []) earlier)
          (All-weaker
          (λ piece. has piece p ≡ true → (some_earlier earlier p ≡ false) × (has (region e) p ≡ true))
          (λ r. AnswersFirst p otherwise earlier (e ∷ items) (make e r))
          (λ r parts h.
          let q = parts (sym (ap (λ r. has r p) (made e r)) ∙ h) in
          (q.0, same e r ∙ sym (ap answer_of_first q.1)))
          (cut_all minus (region e ∷ []) earlier)
          (cut_one-has laws (region e) earlier p))))
          (All-weaker (AnswersFirst p otherwise (earlier ++ region e ∷ []) items) (AnswersFirst p otherwise earlier (e ∷ items))
          (λ later parts h.
          let q = parts h in
          let none = both_false (some_earlier earlier p) (has (region e) p) (sym (list_any-push (λ r. has r p) earlier (region e)) ∙ q.0) in
          (none.0, q.1 ∙ sym (ap answer_of_first none.1)))
          (all (earlier ++ region e ∷ []) items)
          (gathered-first p otherwise (earlier ++ region e ∷ []) items))
        where
          answer_of_first : Bool → V
          answer_of_first here = cond here (answer e) (first_answer (λ e. has (region e) p) answer otherwise items)
