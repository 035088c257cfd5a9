-- Boxes of one family are cut by those of their own family alone.
use Rattle.std.proofs.Common.{◌≡◌, ℕ, ◌+◌, Bool, true, false, nat_lt, ◌||◌, cond, List, [], ◌∷◌, ◌++◌, length, map, filter, Option}
use Rattle.std.proofs.Common.{refl, sym, subst, ap, ap₂, ◌∙◌}
use Rattle.std.proofs.Common.{IfErr, OnOk, Result, Ok, Err}
use Rattle.std.proofs.lemmas.List.{append-nil, length-map, map-append}
use Rattle.std.proofs.lemmas.Result.{IfErr-weaker}
use Rattle.sel_region.specs.Cutting.{cut_all, cut_each}
use Rattle.sel_text.specs.declared.family.Family.{Family}
use Rattle.sel_text.specs.declared.family.Family.TheVariants.{Four, Six}
use Rattle.sel_text.specs.Family.{same_family}
use Rattle.sel_box.specs.declared.any_box.AnyBox.{AnyBox}
use Rattle.sel_box.specs.Boxes.{Ranges, box_from, family_of, ranges_of}
use Rattle.sel_box.specs.BoxRegion.{box_minus, ranges_minus}
use Rattle.sel_box.specs.SomePoint.{has_real_point}
use Rattle.spd_cut.specs.declared.entry.Entry.{Entry}
use Rattle.spd_cut.specs.declared.fault.CutFault.{CutFault}
use Rattle.spd_cut.specs.Entries.{entries_after, new_pieces, piece_of}
use Rattle.spd_cut.specs.Steps.{counts_of, first_over, passes, steps_after}
use Rattle.spd_cut.specs.inner.Cut.{Continues, Cut, IsLineFault, IsRefused, of_both, whole_cut}
use Rattle.spd_cut.proofs.Cuts.{Continues-with_box, IsRefused-at_box, first_over-here, first_over-later}
use Rattle.spd_cut.proofs.Passed.{passes-again}

-- the boxes of a family among some, as their ranges
abbrev those_of : Family → List AnyBox → List Ranges
those_of f [] = []
those_of f (b ∷ bs) = cond (same_family f (family_of b)) (ranges_of b ∷ those_of f bs) (those_of f bs)

box_minus-from : (f : Family) (a : Ranges) (b : AnyBox) →
    box_minus (box_from f a) b
    ≡ cond (same_family f (family_of b)) (map (box_from f) (ranges_minus a (ranges_of b))) (box_from f a ∷ [])
unfolding box_minus
box_minus-from Four a b = refl
box_minus-from Six a b = refl

-- what one box leaves of boxes of a family: all, where it is of the other
cut_each-from : (f : Family) (b : AnyBox) (same : Bool) → same_family f (family_of b) ≡ same → (rs : List Ranges) →
    cut_each box_minus (map (box_from f) rs) b ≡ map (box_from f) (cond same (cut_each ranges_minus rs (ranges_of b)) rs)
cut_each-from f b true e [] = refl
cut_each-from f b false e [] = refl
cut_each-from f b true e (r ∷ rs) =
    ap₂ (λ here later. here ++ later)
    (box_minus-from f r b ∙ ap (λ same. cond same (map (box_from f) (ranges_minus r (ranges_of b))) (box_from f r ∷ [])) e)
    (cut_each-from f b true e rs)
    ∙ sym (map-append (box_from f) (ranges_minus r (ranges_of b)) (cut_each ranges_minus rs (ranges_of b)))
cut_each-from f b false e (r ∷ rs) =
    ap₂ (λ here later. here ++ later)
    (box_minus-from f r b ∙ ap (λ same. cond same (map (box_from f) (ranges_minus r (ranges_of b))) (box_from f r ∷ [])) e)
    (cut_each-from f b false e rs)

-- what all boxes leave of them
cut_all-from : (f : Family) (rs : List Ranges) (earlier : List AnyBox) →
    cut_all box_minus (map (box_from f) rs) earlier ≡ map (box_from f) (cut_all ranges_minus rs (those_of f earlier))
cut_all-from f rs [] = refl
cut_all-from f rs (b ∷ bs) = go (same_family f (family_of b)) refl (λ left. cut_all-from f left bs)
  where
    go : (same : Bool) → same_family f (family_of b) ≡ same →
        ((left : List Ranges) → cut_all box_minus (map (box_from f) left) bs ≡ map (box_from f) (cut_all ranges_minus left (those_of f bs))) →
        cut_all box_minus (cut_each box_minus (map (box_from f) rs) b) bs
        ≡ map (box_from f) (cut_all ranges_minus rs (cond same (ranges_of b ∷ those_of f bs) (those_of f bs)))
    go true e rest =
        ap (λ pieces. cut_all box_minus pieces bs) (cut_each-from f b true e rs) ∙ rest (cut_each ranges_minus rs (ranges_of b))
    go false e rest = ap (λ pieces. cut_all box_minus pieces bs) (cut_each-from f b false e rs) ∙ rest rs

-- and whether some count passes the limit while they are cut
passes-from : (limit done : ℕ) (f : Family) (rs : List Ranges) (earlier : List AnyBox) →
    passes limit (counts_of box_minus done (map (box_from f) rs) earlier)
    ≡ passes limit (counts_of ranges_minus done rs (those_of f earlier))
passes-from limit done f rs [] = ap (λ n. nat_lt limit (done + n) || false) (length-map rs (box_from f))
passes-from limit done f rs (b ∷ bs) = go (same_family f (family_of b)) refl (λ left. passes-from limit done f left bs)
  where
    here : nat_lt limit (done + length (map (box_from f) rs)) ≡ nat_lt limit (done + length rs)
    here = ap (λ n. nat_lt limit (done + n)) (length-map rs (box_from f))

    go : (same : Bool) → same_family f (family_of b) ≡ same →
        ((left : List Ranges) → passes limit (counts_of box_minus done (map (box_from f) left) bs)
        ≡ passes limit (counts_of ranges_minus done left (those_of f bs))) →
        passes limit (counts_of box_minus done (map (box_from f) rs) (b ∷ bs))
        ≡ passes limit (counts_of ranges_minus done rs (cond same (ranges_of b ∷ those_of f bs) (those_of f bs)))
    go true e rest =
        ap₂ (λ x y. x || y) here
        (ap (λ pieces. passes limit (counts_of box_minus done pieces bs)) (cut_each-from f b true e rs)
        ∙ rest (cut_each ranges_minus rs (ranges_of b)))
    go false e rest =
        ap₂ (λ x y. x || y) here
        (ap (λ pieces. passes limit (counts_of box_minus done pieces bs)) (cut_each-from f b false e rs) ∙ rest rs)
        ∙ passes-again ranges_minus limit done rs (those_of f bs)

-- of each family there are the same boxes, in the same order
record SameByFamily (xs ys : List AnyBox) : Type 0 where
  four : those_of Four xs ≡ those_of Four ys
  six : those_of Six xs ≡ those_of Six ys

those_of-append : (f : Family) (xs ys : List AnyBox) → those_of f (xs ++ ys) ≡ those_of f xs ++ those_of f ys
those_of-append f [] ys = refl
those_of-append f (x ∷ xs) ys = go (same_family f (family_of x)) (those_of-append f xs ys)
  where
    go : (same : Bool) → those_of f (xs ++ ys) ≡ those_of f xs ++ those_of f ys →
        cond same (ranges_of x ∷ those_of f (xs ++ ys)) (those_of f (xs ++ ys))
        ≡ cond same (ranges_of x ∷ those_of f xs) (those_of f xs) ++ those_of f ys
    go true rest = ap (λ rs. ranges_of x ∷ rs) rest
    go false rest = rest

SameByFamily-push : (xs ys : List AnyBox) (b : AnyBox) → SameByFamily xs ys → SameByFamily (xs ++ b ∷ []) (ys ++ b ∷ [])
SameByFamily-push xs ys b same = record {
  four = those_of-append Four xs (b ∷ []) ∙ ap (λ rs. rs ++ those_of Four (b ∷ [])) same.four ∙ sym (those_of-append Four ys (b ∷ []));
  six = those_of-append Six xs (b ∷ []) ∙ ap (λ rs. rs ++ those_of Six (b ∷ [])) same.six ∙ sym (those_of-append Six ys (b ∷ []));
}

cut_all-same : (xs ys : List AnyBox) → SameByFamily xs ys → (b : AnyBox) → cut_all box_minus (b ∷ []) xs ≡ cut_all box_minus (b ∷ []) ys
cut_all-same xs ys same (AnyBox.Four r) =
    cut_all-from Four (r ∷ []) xs
    ∙ ap (λ rs. map (box_from Four) (cut_all ranges_minus (r ∷ []) rs)) same.four
    ∙ sym (cut_all-from Four (r ∷ []) ys)
cut_all-same xs ys same (AnyBox.Six r) =
    cut_all-from Six (r ∷ []) xs
    ∙ ap (λ rs. map (box_from Six) (cut_all ranges_minus (r ∷ []) rs)) same.six
    ∙ sym (cut_all-from Six (r ∷ []) ys)

passes-same : (limit done : ℕ) (xs ys : List AnyBox) → SameByFamily xs ys → (b : AnyBox) →
    passes limit (counts_of box_minus done (b ∷ []) xs) ≡ passes limit (counts_of box_minus done (b ∷ []) ys)
passes-same limit done xs ys same (AnyBox.Four r) =
    passes-from limit done Four (r ∷ []) xs
    ∙ ap (λ rs. passes limit (counts_of ranges_minus done (r ∷ []) rs)) same.four
    ∙ sym (passes-from limit done Four (r ∷ []) ys)
passes-same limit done xs ys same (AnyBox.Six r) =
    passes-from limit done Six (r ∷ []) xs
    ∙ ap (λ rs. passes limit (counts_of ranges_minus done (r ∷ []) rs)) same.six
    ∙ sym (passes-from limit done Six (r ∷ []) ys)

entries_after-same : (xs ys : List AnyBox) → SameByFamily xs ys → (boxes : List Entry) → entries_after xs boxes ≡ entries_after ys boxes
entries_after-same xs ys same [] = refl
entries_after-same xs ys same (box ∷ boxes) =
    ap₂ (λ (pieces : List AnyBox) (rest : List Entry). map (piece_of box) (filter has_real_point pieces) ++ rest)
    (cut_all-same xs ys same box.region)
    (entries_after-same (xs ++ box.region ∷ []) (ys ++ box.region ∷ []) (SameByFamily-push xs ys box.region same) boxes)

first_over-same : (limit done : ℕ) (xs ys : List AnyBox) → SameByFamily xs ys → (boxes : List Entry) →
    first_over limit (steps_after xs done boxes) ≡ first_over limit (steps_after ys done boxes)
first_over-same limit done xs ys same [] = refl
first_over-same limit done xs ys same (box ∷ boxes) =
    go (passes limit (counts_of box_minus done (box.region ∷ []) ys)) refl
    (ap (λ (pieces : List AnyBox). first_over limit (steps_after (xs ++ box.region ∷ []) (done + length (filter has_real_point pieces)) boxes))
    (cut_all-same xs ys same box.region)
    ∙ first_over-same limit (done + length (new_pieces ys box.region)) (xs ++ box.region ∷ []) (ys ++ box.region ∷ [])
    (SameByFamily-push xs ys box.region same) boxes)
  where
    both : passes limit (counts_of box_minus done (box.region ∷ []) xs) ≡ passes limit (counts_of box_minus done (box.region ∷ []) ys)
    both = passes-same limit done xs ys same box.region

    go : (some : Bool) → passes limit (counts_of box_minus done (box.region ∷ []) ys) ≡ some →
        first_over limit (steps_after (xs ++ box.region ∷ []) (done + length (new_pieces xs box.region)) boxes)
        ≡ first_over limit (steps_after (ys ++ box.region ∷ []) (done + length (new_pieces ys box.region)) boxes) →
        first_over limit (steps_after xs done (box ∷ boxes)) ≡ first_over limit (steps_after ys done (box ∷ boxes))
    go true e rest =
        first_over-here limit box.link _ _ (both ∙ e) ∙ sym (first_over-here limit box.link _ _ e)
    go false e rest =
        first_over-later limit box.link _ _ (both ∙ e) ∙ rest ∙ sym (first_over-later limit box.link _ _ e)

-- so what comes of a cutting is the same
whole_cut-same : (limit : ℕ) (xs ys : List AnyBox) (entries boxes : List Entry) → SameByFamily xs ys →
    whole_cut limit (record { earlier = xs; entries = entries }) boxes ≡ whole_cut limit (record { earlier = ys; entries = entries }) boxes
whole_cut-same limit xs ys entries boxes same =
    ap₂ (λ (after : List Entry) (over : Option ℕ). record { entries = entries ++ after; over = over })
    (entries_after-same xs ys same boxes) (first_over-same limit (length entries) xs ys same boxes)

-- the boxes of both families, told apart again
those_of-from : (f : Family) (rs : List Ranges) → those_of f (map (box_from f) rs) ≡ rs
those_of-from Four [] = refl
those_of-from Six [] = refl
those_of-from Four (r ∷ rs) = ap (λ rest. r ∷ rest) (those_of-from Four rs)
those_of-from Six (r ∷ rs) = ap (λ rest. r ∷ rest) (those_of-from Six rs)

no_six : (rs : List Ranges) → those_of Six (map AnyBox.Four rs) ≡ []
no_six [] = refl
no_six (r ∷ rs) = no_six rs

no_four : (rs : List Ranges) → those_of Four (map AnyBox.Six rs) ≡ []
no_four [] = refl
no_four (r ∷ rs) = no_four rs

four-of_both : (four six : List Ranges) → those_of Four (of_both four six) ≡ four
four-of_both four six =
    those_of-append Four (map AnyBox.Four four) (map AnyBox.Six six)
    ∙ ap₂ (λ xs ys. xs ++ ys) (those_of-from Four four) (no_four six)
    ∙ append-nil four

six-of_both : (four six : List Ranges) → those_of Six (of_both four six) ≡ six
six-of_both four six =
    those_of-append Six (map AnyBox.Four four) (map AnyBox.Six six)
    ∙ ap₂ (λ xs ys. xs ++ ys) (no_six four) (those_of-from Six six)

-- one box more of either family is one box more behind them all
both_with_four : (four six : List Ranges) (r : Ranges) → SameByFamily (of_both (four ++ r ∷ []) six) (of_both four six ++ AnyBox.Four r ∷ [])
both_with_four four six r = record {
  four = four-of_both (four ++ r ∷ []) six
      ∙ sym (those_of-append Four (of_both four six) (AnyBox.Four r ∷ []) ∙ ap (λ rs. rs ++ r ∷ []) (four-of_both four six));
  six = six-of_both (four ++ r ∷ []) six
      ∙ sym (those_of-append Six (of_both four six) (AnyBox.Four r ∷ []) ∙ ap (λ rs. rs ++ []) (six-of_both four six) ∙ append-nil six);
}

both_with_six : (four six : List Ranges) (r : Ranges) → SameByFamily (of_both four (six ++ r ∷ [])) (of_both four six ++ AnyBox.Six r ∷ [])
both_with_six four six r = record {
  four = four-of_both four (six ++ r ∷ [])
      ∙ sym (those_of-append Four (of_both four six) (AnyBox.Six r ∷ []) ∙ ap (λ rs. rs ++ []) (four-of_both four six) ∙ append-nil four);
  six = six-of_both four (six ++ r ∷ [])
      ∙ sym (those_of-append Six (of_both four six) (AnyBox.Six r ∷ []) ∙ ap (λ rs. rs ++ r ∷ []) (six-of_both four six));
}

map-filter-map : {X Y Z : Type 0} (test : Y → Bool) (f : Y → Z) (g : X → Y) (xs : List X) →
    map (λ x. f (g x)) (filter (λ x. test (g x)) xs) ≡ map f (filter test (map g xs))
map-filter-map test f g [] = refl
map-filter-map {X} {Y} {Z} test f g (x ∷ xs) = go (test (g x)) (map-filter-map test f g xs)
  where
    go : (here : Bool) → map (λ x. f (g x)) (filter (λ x. test (g x)) xs) ≡ map f (filter test (map g xs)) →
        map (λ x. f (g x)) (cond here (x ∷ filter (λ x. test (g x)) xs) (filter (λ x. test (g x)) xs))
        ≡ map f (cond here (g x ∷ filter test (map g xs)) (filter test (map g xs)))
    go true rest = ap (λ zs. f (g x) ∷ zs) rest
    go false rest = rest

-- the entries of a box, by the ranges of its family
abbrev pub put : Family → List Ranges → Ranges → Entry → List Entry
put f earlier r box =
    map (λ piece. piece_of box (box_from f piece))
    (filter (λ piece. has_real_point (box_from f piece)) (cut_all ranges_minus (r ∷ []) earlier))

put-is : (f : Family) (earlier : List AnyBox) (r : Ranges) (box : Entry) → box.region ≡ box_from f r →
    put f (those_of f earlier) r box ≡ map (piece_of box) (new_pieces earlier box.region)
put-is f earlier r box is =
    map-filter-map has_real_point (piece_of box) (box_from f) (cut_all ranges_minus (r ∷ []) (those_of f earlier))
    ∙ ap (λ pieces. map (piece_of box) (filter has_real_point pieces))
    (sym (cut_all-from f (r ∷ []) earlier) ∙ ap (λ b. cut_all box_minus (b ∷ []) earlier) (sym is))

passes-is : (limit done : ℕ) (f : Family) (earlier : List AnyBox) (r : Ranges) (box : Entry) → box.region ≡ box_from f r →
    passes limit (counts_of box_minus done (box.region ∷ []) earlier)
    ≡ passes limit (counts_of ranges_minus done (r ∷ []) (those_of f earlier))
passes-is limit done f earlier r box is =
    ap (λ b. passes limit (counts_of box_minus done (b ∷ []) earlier)) is ∙ passes-from limit done f (r ∷ []) earlier

-- a box is cut by those of its family, and stands behind them from then on
Continues-by_family : (limit : ℕ) (f : Family) (earlier after : List AnyBox) (entries : List Entry) (box : Entry) (r : Ranges) →
    SameByFamily after (earlier ++ box_from f r ∷ []) → box.region ≡ box_from f r →
    passes limit (counts_of ranges_minus (length entries) (r ∷ []) (those_of f earlier)) ≡ false →
    Continues limit (record { earlier = earlier; entries = entries }) (box ∷ [])
    (record { earlier = after; entries = entries ++ put f (those_of f earlier) r box })
Continues-by_family limit f earlier after entries box r same is none rest =
    ap (λ (made : List Entry). whole_cut limit (record { earlier = after; entries = entries ++ made }) rest) (put-is f earlier r box is)
    ∙ whole_cut-same limit after (earlier ++ box.region ∷ []) (entries ++ map (piece_of box) (new_pieces earlier box.region)) rest
    (subst (λ (b : AnyBox). SameByFamily after (earlier ++ b ∷ [])) (sym is) same)
    ∙ Continues-with_box limit (record { earlier = earlier; entries = entries }) box
    (passes-is limit (length entries) f earlier r box is ∙ none) rest

IsRefused-by_family : (limit : ℕ) (f : Family) (earlier : List AnyBox) (entries : List Entry) (box : Entry) (r : Ranges) (fault : CutFault) →
    box.region ≡ box_from f r →
    IsLineFault (passes limit (counts_of ranges_minus (length entries) (r ∷ []) (those_of f earlier))) box.link fault →
    IsRefused limit (record { earlier = earlier; entries = entries }) (box ∷ []) fault
IsRefused-by_family limit f earlier entries box r fault is says =
    IsRefused-at_box limit (record { earlier = earlier; entries = entries }) box fault
    (subst (λ (p : Bool). IsLineFault p box.link fault) (sym (passes-is limit (length entries) f earlier r box is)) says)

module _ (limit : ℕ) (four six : List Ranges) (entries : List Entry) (box : Entry) (r : Ranges) where
  abbrev cut_now : Cut
  cut_now = record { earlier = of_both four six; entries = entries }

  Continues-with_four : box.region ≡ AnyBox.Four r →
      passes limit (counts_of ranges_minus (length entries) (r ∷ []) four) ≡ false →
      Continues limit cut_now (box ∷ []) (record { earlier = of_both (four ++ r ∷ []) six; entries = entries ++ put Four four r box })
  Continues-with_four is =
      subst
      (λ (rs : List Ranges).
      passes limit (counts_of ranges_minus (length entries) (r ∷ []) rs) ≡ false →
      Continues limit cut_now (box ∷ []) (record { earlier = of_both (four ++ r ∷ []) six; entries = entries ++ put Four rs r box }))
      (four-of_both four six)
      (Continues-by_family limit Four (of_both four six) (of_both (four ++ r ∷ []) six) entries box r (both_with_four four six r) is)

  Continues-with_six : box.region ≡ AnyBox.Six r →
      passes limit (counts_of ranges_minus (length entries) (r ∷ []) six) ≡ false →
      Continues limit cut_now (box ∷ []) (record { earlier = of_both four (six ++ r ∷ []); entries = entries ++ put Six six r box })
  Continues-with_six is =
      subst
      (λ (rs : List Ranges).
      passes limit (counts_of ranges_minus (length entries) (r ∷ []) rs) ≡ false →
      Continues limit cut_now (box ∷ []) (record { earlier = of_both four (six ++ r ∷ []); entries = entries ++ put Six rs r box }))
      (six-of_both four six)
      (Continues-by_family limit Six (of_both four six) (of_both four (six ++ r ∷ [])) entries box r (both_with_six four six r) is)

  IsRefused-at_four : (fault : CutFault) → box.region ≡ AnyBox.Four r →
      IsLineFault (passes limit (counts_of ranges_minus (length entries) (r ∷ []) four)) box.link fault →
      IsRefused limit cut_now (box ∷ []) fault
  IsRefused-at_four fault is says =
      IsRefused-by_family limit Four (of_both four six) entries box r fault is
      (subst (λ (rs : List Ranges). IsLineFault (passes limit (counts_of ranges_minus (length entries) (r ∷ []) rs)) box.link fault)
      (sym (four-of_both four six)) says)

  IsRefused-at_six : (fault : CutFault) → box.region ≡ AnyBox.Six r →
      IsLineFault (passes limit (counts_of ranges_minus (length entries) (r ∷ []) six)) box.link fault →
      IsRefused limit cut_now (box ∷ []) fault
  IsRefused-at_six fault is says =
      IsRefused-by_family limit Six (of_both four six) entries box r fault is
      (subst (λ (rs : List Ranges). IsLineFault (passes limit (counts_of ranges_minus (length entries) (r ∷ []) rs)) box.link fault)
      (sym (six-of_both four six)) says)

-- three facts of a success give a fourth
on_ok_three : {T E A B C D : Type 0} (result : Result T E) → (A → B → C → D) → OnOk result A → OnOk result B → OnOk result C → OnOk result D
on_ok_three (Ok x) f a b c = f a b c
on_ok_three (Err e) f a b c = tt

-- what cutting a box by those of its family says of it: how far the cutting is after it, or why it is refused
module _ (limit : ℕ) (four six : List Ranges) (entries : List Entry) (box : Entry) (r : Ranges)
    {T : Type 0} (result : Result T CutFault) (more : List Ranges) (after : List Entry)
  where
    pub added_four : box.region ≡ AnyBox.Four r → OnOk result (more ≡ four ++ r ∷ []) → OnOk result (after ≡ entries ++ put Four four r box) →
        OnOk result (passes limit (counts_of ranges_minus (length entries) (r ∷ []) four) ≡ false) →
        OnOk result (Continues limit (record { earlier = of_both four six; entries = entries }) (box ∷ [])
        (record { earlier = of_both more six; entries = after }))
    added_four is =
        on_ok_three result
        (λ (e : more ≡ four ++ r ∷ []) (f : after ≡ entries ++ put Four four r box)
        (none : passes limit (counts_of ranges_minus (length entries) (r ∷ []) four) ≡ false).
        rw (e, f) (Continues-with_four limit four six entries box r is none))

    pub added_six : box.region ≡ AnyBox.Six r → OnOk result (more ≡ six ++ r ∷ []) → OnOk result (after ≡ entries ++ put Six six r box) →
        OnOk result (passes limit (counts_of ranges_minus (length entries) (r ∷ []) six) ≡ false) →
        OnOk result (Continues limit (record { earlier = of_both four six; entries = entries }) (box ∷ [])
        (record { earlier = of_both four more; entries = after }))
    added_six is =
        on_ok_three result
        (λ (e : more ≡ six ++ r ∷ []) (f : after ≡ entries ++ put Six six r box)
        (none : passes limit (counts_of ranges_minus (length entries) (r ∷ []) six) ≡ false).
        rw (e, f) (Continues-with_six limit four six entries box r is none))

    pub refused_four : box.region ≡ AnyBox.Four r →
        IfErr result (IsLineFault (passes limit (counts_of ranges_minus (length entries) (r ∷ []) four)) box.link) →
        IfErr result (IsRefused limit (record { earlier = of_both four six; entries = entries }) (box ∷ []))
    refused_four is =
        IfErr-weaker result (IsLineFault (passes limit (counts_of ranges_minus (length entries) (r ∷ []) four)) box.link)
        (IsRefused limit (record { earlier = of_both four six; entries = entries }) (box ∷ []))
        (λ fault says. IsRefused-at_four limit four six entries box r fault is says)

    pub refused_six : box.region ≡ AnyBox.Six r →
        IfErr result (IsLineFault (passes limit (counts_of ranges_minus (length entries) (r ∷ []) six)) box.link) →
        IfErr result (IsRefused limit (record { earlier = of_both four six; entries = entries }) (box ∷ []))
    refused_six is =
        IfErr-weaker result (IsLineFault (passes limit (counts_of ranges_minus (length entries) (r ∷ []) six)) box.link)
        (IsRefused limit (record { earlier = of_both four six; entries = entries }) (box ∷ []))
        (λ fault says. IsRefused-at_six limit four six entries box r fault is says)
