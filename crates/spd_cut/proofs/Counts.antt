-- The counts of a cutting, each said by itself.
use Rattle.std.proofs.Common.{◌≡◌, ℕ, ◌+◌, ◌<◌, ◌≤◌, Bool, true, false, nat_lt, ◌||◌, cond, List, [], ◌∷◌, ◌++◌, length, map}
use Rattle.std.proofs.Common.{Option, Some, None, ◌↔◌, refl, sym, subst, ap, ap₂, ◌∙◌, append_assoc, arith}
use Rattle.std.proofs.lemmas.Bool.{false≢true}
use Rattle.std.proofs.lemmas.Bool.Decides.{nat_tests}
use Rattle.std.proofs.lemmas.List.{append-nil, length-append, length-map, map-append}
use Rattle.sel_region.specs.Cutting.{cut_all, cut_each}
use Rattle.sel_box.specs.BoxRegion.{box_minus}
use Rattle.sel_box.specs.declared.any_box.AnyBox.{AnyBox}
use Rattle.spd_cut.specs.declared.entry.Entry.{Entry}
use Rattle.spd_cut.specs.Entries.{entries_after, new_pieces, piece_of}
use Rattle.spd_cut.specs.Limit.{PassesAt, StaysWithin, count_at}
use Rattle.spd_cut.specs.Steps.{counts_of, first_over, passes, steps_after}
use Rattle.spd_cut.proofs.Cuts.{first_over-here, first_over-later}
use Rattle.spd_cut.proofs.Loops.{both_false, not_below}

-- What a test of a count says, and of one that passes or a later one.
not_passed : (limit n : ℕ) → nat_lt limit n ≡ false → n ≤ limit
not_passed limit n e = grind (arith, nat_tests)

is_passed : (limit n : ℕ) → nat_lt limit n ≡ true → limit < n
is_passed limit n e = grind (arith, nat_tests)

none_of : (x y : Bool) → x ≡ false → y ≡ false → (x || y) ≡ false
none_of x y e f = rw (e, f) refl

-- The counts of one box that is cut by the regions of some items.
module _ {E R : Type 0} (minus : R → R → List R) (region : E → R) (limit done : ℕ) where
  abbrev some_passes : List R → List E → Bool
  some_passes pieces earlier = passes limit (counts_of minus done pieces (map region earlier))

  abbrev count : List R → List E → ℕ
  count pieces cut = done + length (cut_all minus pieces (map region cut))

  -- the first count is that of the pieces as they are
  some_passes-first : (pieces : List R) (earlier : List E) → some_passes pieces earlier ≡ false → count pieces [] ≤ limit
  some_passes-first pieces [] none = not_passed limit (done + length pieces) (both_false _ _ none).0
  some_passes-first pieces (e ∷ earlier) none = not_passed limit (done + length pieces) (both_false _ _ none).0

  counts_within : (pieces : List R) (cut rest : List E) → some_passes pieces (cut ++ rest) ≡ false → count pieces cut ≤ limit
  counts_within pieces [] rest none = some_passes-first pieces rest none
  counts_within pieces (e ∷ cut) rest none = counts_within (cut_each minus pieces (region e)) cut rest (both_false _ _ none).1

  none_passes : (pieces : List R) (earlier : List E) →
      ((cut rest : List E) → earlier ≡ cut ++ rest → count pieces cut ≤ limit) → some_passes pieces earlier ≡ false
  none_passes pieces [] within = none_of _ _ (not_below limit (done + length pieces) (within [] [] refl)) refl
  none_passes pieces (e ∷ earlier) within =
      none_of _ _ (not_below limit (done + length pieces) (within [] (e ∷ earlier) refl))
      (none_passes (cut_each minus pieces (region e)) earlier (λ cut rest is. within (e ∷ cut) rest (ap (λ es. e ∷ es) is)))

  -- where some count passes, it is that behind some first of the items
  abbrev Passed : List R → List E → Type 0
  Passed pieces earlier = (cut : List E) × ((rest : List E) × ((earlier ≡ cut ++ rest) × (limit < count pieces cut)))

  passed_behind : (pieces : List R) (earlier : List E) → some_passes pieces earlier ≡ true → Passed pieces earlier
  passed_behind pieces [] some = go (nat_lt limit (done + length pieces)) refl some
    where
      go : (here : Bool) → nat_lt limit (done + length pieces) ≡ here → (here || false) ≡ true → Passed pieces []
      go true e f = ([], ([], (refl, is_passed limit (done + length pieces) e)))
      go false e f = absurd (false≢true f)
  passed_behind pieces (e ∷ earlier) some =
      go (nat_lt limit (done + length pieces)) refl (passed_behind (cut_each minus pieces (region e)) earlier) some
    where
      go : (here : Bool) → nat_lt limit (done + length pieces) ≡ here →
          (some_passes (cut_each minus pieces (region e)) earlier ≡ true → Passed (cut_each minus pieces (region e)) earlier) →
          (here || some_passes (cut_each minus pieces (region e)) earlier) ≡ true → Passed pieces (e ∷ earlier)
      go true is rest f = ([], (e ∷ earlier, (refl, is_passed limit (done + length pieces) is)))
      go false is rest f =
          let q = rest f in
          (e ∷ q.0, (q.1.0, (ap (λ es. e ∷ es) q.1.1.0, q.1.1.1)))

-- The steps of boxes behind others.
abbrev region_of : Entry → AnyBox
region_of e = e.region

entries_after-append : (earlier : List AnyBox) (xs ys : List Entry) →
    entries_after earlier (xs ++ ys) ≡ entries_after earlier xs ++ entries_after (earlier ++ map region_of xs) ys
entries_after-append earlier [] ys = ap (λ (rs : List AnyBox). entries_after rs ys) (sym (append-nil earlier))
entries_after-append earlier (x ∷ xs) ys =
    ap (λ (es : List Entry). map (piece_of x) (new_pieces earlier x.region) ++ es)
    (entries_after-append (earlier ++ x.region ∷ []) xs ys
    ∙ ap (λ (rs : List AnyBox). entries_after (earlier ++ x.region ∷ []) xs ++ entries_after rs ys)
    (append_assoc earlier (x.region ∷ []) (map region_of xs)))
    ∙ sym (append_assoc (map (piece_of x) (new_pieces earlier x.region)) (entries_after (earlier ++ x.region ∷ []) xs)
    (entries_after (earlier ++ x.region ∷ map region_of xs) ys))

done_next : (before : List Entry) (box : Entry) →
    length (entries_after [] (before ++ box ∷ []))
    ≡ length (entries_after [] before) + length (new_pieces (map region_of before) box.region)
done_next before box =
    ap length (entries_after-append [] before (box ∷ []))
    ∙ simp (length-append, length-map, append-nil)

module _ (limit : ℕ) where
  abbrev over_behind : List Entry → List Entry → Option ℕ
  over_behind before boxes = first_over limit (steps_after (map region_of before) (length (entries_after [] before)) boxes)

  abbrev passes_at : List Entry → Entry → Bool
  passes_at before box = some_passes box_minus region_of limit (length (entries_after [] before)) (box.region ∷ []) before

  over_behind-next : (before : List Entry) (box : Entry) (boxes : List Entry) →
      over_behind before (box ∷ boxes) ≡ cond (passes_at before box) (Some box.link) (over_behind (before ++ box ∷ []) boxes)
  over_behind-next before box boxes = go (passes_at before box) refl
    where
      go : (here : Bool) → passes_at before box ≡ here →
          over_behind before (box ∷ boxes) ≡ cond here (Some box.link) (over_behind (before ++ box ∷ []) boxes)
      go true e = first_over-here limit box.link _ _ e
      go false e =
          first_over-later limit box.link _ _ e
          ∙ ap₂ (λ (earlier : List AnyBox) (done : ℕ). first_over limit (steps_after earlier done boxes))
          (sym (map-append region_of before (box ∷ []))) (sym (done_next before box))

  -- where no step passes, none does while any of the boxes is cut
  none_at : (before mid : List Entry) (box : Entry) (after : List Entry) →
      over_behind before (mid ++ box ∷ after) ≡ None → passes_at (before ++ mid) box ≡ false
  none_at before [] box after none =
      subst (λ (es : List Entry). passes_at es box ≡ false) (sym (append-nil before))
      (go (passes_at before box) (sym (over_behind-next before box after) ∙ none))
    where
      go : (here : Bool) → cond here (Some box.link) (over_behind (before ++ box ∷ []) after) ≡ None → here ≡ false
      go true e = cc
      go false e = refl
  none_at before (m ∷ mid) box after none =
      subst (λ (es : List Entry). passes_at es box ≡ false) (append_assoc before (m ∷ []) mid)
      (none_at (before ++ m ∷ []) mid box after
      (go (passes_at before m) (sym (over_behind-next before m (mid ++ box ∷ after)) ∙ none)))
    where
      go : (here : Bool) → cond here (Some m.link) (over_behind (before ++ m ∷ []) (mid ++ box ∷ after)) ≡ None →
          over_behind (before ++ m ∷ []) (mid ++ box ∷ after) ≡ None
      go true e = cc
      go false e = e

  none_over : (before boxes : List Entry) →
      ((mid : List Entry) (box : Entry) (after : List Entry) → boxes ≡ mid ++ box ∷ after → passes_at (before ++ mid) box ≡ false) →
      over_behind before boxes ≡ None
  none_over before [] none = refl
  none_over before (b ∷ boxes) none =
      over_behind-next before b boxes
      ∙ ap (λ here. cond here (Some b.link) (over_behind (before ++ b ∷ []) boxes))
      (subst (λ (es : List Entry). passes_at es b ≡ false) (append-nil before) (none [] b boxes refl))
      ∙ none_over (before ++ b ∷ []) boxes
      (λ mid box after is. subst (λ (es : List Entry). passes_at es box ≡ false) (sym (append_assoc before (b ∷ []) mid))
      (none (b ∷ mid) box after (ap (λ (es : List Entry). b ∷ es) is)))

  -- where one does, the first is while some box is cut, and none of those before it passes
  record FirstOver (before boxes : List Entry) (line : ℕ) : Type 0 where
    mid : List Entry
    box : Entry
    after : List Entry
    parts : boxes ≡ mid ++ box ∷ after
    is_line : line ≡ box.link
    none : over_behind before mid ≡ None
    passed : passes_at (before ++ mid) box ≡ true

  first_at : (before boxes : List Entry) (line : ℕ) → over_behind before boxes ≡ Some line → FirstOver before boxes line
  first_at before [] line is = cc
  first_at before (b ∷ boxes) line is =
      go (passes_at before b) refl (first_at (before ++ b ∷ []) boxes line) (sym (over_behind-next before b boxes) ∙ is)
    where
      go : (here : Bool) → passes_at before b ≡ here →
          (over_behind (before ++ b ∷ []) boxes ≡ Some line → FirstOver (before ++ b ∷ []) boxes line) →
          cond here (Some b.link) (over_behind (before ++ b ∷ []) boxes) ≡ Some line → FirstOver before (b ∷ boxes) line
      go true e rest f =
          let same : line ≡ b.link = cc in
          record {
            mid = [];
            box = b;
            after = boxes;
            parts = refl;
            is_line = same;
            none = refl;
            passed = subst (λ (es : List Entry). passes_at es b ≡ true) (sym (append-nil before)) e;
          }
      go false e rest f =
          let q = rest f in
          record {
            mid = b ∷ q.mid;
            box = q.box;
            after = q.after;
            parts = ap (λ (es : List Entry). b ∷ es) q.parts;
            is_line = q.is_line;
            none = over_behind-next before b q.mid
                ∙ ap (λ here. cond here (Some b.link) (over_behind (before ++ b ∷ []) q.mid)) e
                ∙ q.none;
            passed = subst (λ (es : List Entry). passes_at es q.box ≡ true) (append_assoc before (b ∷ []) q.mid) q.passed;
          }

  pub stays_within : (boxes : List Entry) → (first_over limit (steps_after [] 0 boxes) ≡ None) ↔ StaysWithin limit boxes
  stays_within boxes = (
    λ none cut rest box after is.
        counts_within box_minus region_of limit (length (entries_after [] (cut ++ rest))) (box.region ∷ []) cut rest
        (none_at [] (cut ++ rest) box after (subst (λ (es : List Entry). over_behind [] es ≡ None) is none)),
    λ within. none_over [] boxes (λ mid box after is.
        none_passes box_minus region_of limit (length (entries_after [] mid)) (box.region ∷ []) mid
        (λ cut rest split.
        subst (λ (es : List Entry). length (entries_after [] es) + length (cut_all box_minus (box.region ∷ []) (map region_of cut)) ≤ limit)
        (sym split)
        (within cut rest box after (is ∙ ap (λ (es : List Entry). es ++ box ∷ after) split)))),
  )

  pub passes_first : (line : ℕ) (boxes : List Entry) → first_over limit (steps_after [] 0 boxes) ≡ Some line → PassesAt limit boxes line
  passes_first line boxes is =
      let q = first_at [] boxes line is in
      let p = passed_behind box_minus region_of limit (length (entries_after [] q.mid)) (q.box.region ∷ []) q.mid q.passed in
      record {
        cut = p.0;
        rest = p.1.0;
        box = q.box;
        after = q.after;
        parts = q.parts ∙ ap (λ (es : List Entry). es ++ q.box ∷ q.after) p.1.1.0;
        line_is = q.is_line;
        before = subst (StaysWithin limit) p.1.1.0 ((stays_within q.mid).0 q.none);
        passed = subst (λ (es : List Entry). limit < count_at es p.0 q.box) p.1.1.0 p.1.1.1;
      }
