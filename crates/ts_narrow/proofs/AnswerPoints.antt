-- What is true of the answer, by points.
use Rattle.std.proofs.Common.{◌≡◌, ℕ, Bool, true, false, not, cond, List, [], ◌∷◌, take, Option, Some, None}
use Rattle.std.proofs.Common.{inl, inr, refl, sym, subst, ap, ◌∙◌}
use Rattle.std.specs.List.{find, list_any}
use Rattle.std.proofs.lemmas.Bool.{and_from, and_parts, and_right, false≢true, false_from_ne_true, or_cases, or_left, or_right}
use Rattle.std.proofs.lemmas.Option.{none-some}
use Rattle.sel_box.specs.declared.any_box.AnyBox.{AnyBox}
use Rattle.sel_box.specs.BoxRegion.{box_minus}
use Rattle.sel_box.specs.Boxes.{box_has}
use Rattle.sel_box.specs.Point.{IsReal, PointFields}
use Rattle.sel_box.specs.laws.BoxLaws.{box_laws}
use Rattle.spd_cut.specs.declared.entry.Entry.{Entry}
use Rattle.spd_line.specs.declared.line.LineParts.{LineParts}
use Rattle.ts_payload.specs.declared.selector.Ts.{Ts}
use Rattle.ts_payload.specs.Selector.{AreSelectors}
use Rattle.ts_cover.specs.Covered.{covered, is_sayable}
use Rattle.ts_cover.specs.Pairs.{boxes_have, first_pair, pairs}
use Rattle.ts_cover.specs.RealParts.{leaves, reaches}
use Rattle.ts_cover.proofs.PairPoints.{pairs-points}
use Rattle.ts_cover.proofs.Reached.{reaches-at, reaches-some, says-from, says-some}
use Rattle.ts_narrow.specs.declared.choice.Choice.{Choice}
use Rattle.ts_narrow.specs.declared.meets.Meet.{Meet}
use Rattle.ts_narrow.specs.declared.narrowed.Narrowed.{Narrowed}
use Rattle.ts_narrow.specs.declared.narrowed.Narrowed.TheVariants.{Pair, Unacceptable}
use Rattle.ts_narrow.specs.Allowed.{StandForBoth, allowed}
use Rattle.ts_narrow.specs.Answered.{AllAllowed, CoversSome, GivesWhole, IsRightAnswer, IsWithin, KeepsFirst, RefusesRightly}
use Rattle.ts_narrow.specs.Answered.{SomeAcceptable, SomeFirst, TellsOfLeft}
use Rattle.ts_narrow.specs.IsNarrowing.{IsNarrowing, NoneAllows}
use Rattle.ts_narrow.specs.IsNarrowing.IsPicked.{by_all}
use Rattle.ts_narrow.specs.Meets.{meets, regions_of}
use Rattle.ts_narrow.specs.Narrowing.{answer_of, by_meets, by_said, choice, misses, narrowing}
use Rattle.ts_narrow.proofs.Chosen.{IsRight, choice-first, choice-right, choice-some}
use Rattle.ts_narrow.proofs.FirstPair.{first-covered}
use Rattle.ts_narrow.proofs.Found.{find-listed, find-passes, find-some, point-passes, says_in}
use Rattle.ts_narrow.proofs.Kept.{allowed-kept, kept-allowed, listed-allowed}
use Rattle.ts_narrow.proofs.MeetPoints.{allowed-one, allowed-real, meets-allowed}
use Rattle.ts_narrow.proofs.Picks.{choice-picked}

-- ---- a meet outside a region

record Outside (cover pieces : List AnyBox) : Type 0 where
  point : PointFields
  real : IsReal point
  inside : boxes_have pieces point ≡ true
  reached : boxes_have cover point ≡ true

pieces-some : (cover pieces : List AnyBox) → list_any (reaches cover) pieces ≡ true → Outside cover pieces
pieces-some cover [] h = cc
pieces-some cover (b ∷ pieces) h =
    elim (or_cases (reaches cover b) (list_any (reaches cover) pieces) h) [
      | inl here ↦
          let r = reaches-some cover b here in
          record {
            point = r.point;
            real = r.real;
            inside = or_left (box_has b r.point) (boxes_have pieces r.point) r.inside;
            reached = r.reached;
          }
      | inr later ↦
          let o = pieces-some cover pieces later in
          record {
            point = o.point;
            real = o.real;
            inside = or_right (box_has b o.point) (boxes_have pieces o.point) o.inside;
            reached = o.reached;
          }
    ]

pieces-at : (cover pieces : List AnyBox) (x : PointFields) → IsReal x → boxes_have pieces x ≡ true → boxes_have cover x ≡ true →
    list_any (reaches cover) pieces ≡ true
pieces-at cover [] x real h reached = cc
pieces-at cover (b ∷ pieces) x real h reached =
    elim (or_cases (box_has b x) (boxes_have pieces x) h) [
      | inl here ↦ or_left (reaches cover b) (list_any (reaches cover) pieces) (reaches-at cover b x real here reached)
      | inr later ↦ or_right (reaches cover b) (list_any (reaches cover) pieces) (pieces-at cover pieces x real later reached)
    ]

not_true : (b : Bool) → not b ≡ true → b ≡ false
not_true true h = cc
not_true false h = refl

module _ (lines : List LineParts) (list : List Meet)
    (known : (place : ℕ) (x : PointFields) → IsReal x → boxes_have (regions_of place list) x ≡ allowed lines place x)
    (tsi tsr : List Ts) (hi : AreSelectors tsi) (hr : AreSelectors tsr)
  where
    abbrev Right : Choice → Type 0
    Right chosen = IsRight lines list known tsi tsr hi hr chosen

    cov : (x : PointFields) → boxes_have (pairs tsi tsr) x ≡ covered tsi tsr x
    cov x = pairs-points tsi tsr x hi hr

    -- A sayable point that the line allows and the proposal covers.
    record SaidAt (place : ℕ) : Type 0 where
      point : PointFields
      real : IsReal point
      is_allowed : allowed lines place point ≡ true
      is_covered : covered tsi tsr point ≡ true
      can_be_said : is_sayable point ≡ true

    said-at : (meet : Meet) → find (says_in (pairs tsi tsr)) list ≡ Some meet → SaidAt meet.link
    said-at meet e =
        let s = says-some (pairs tsi tsr) meet.region (find-passes (says_in (pairs tsi tsr)) list meet e) in
        record {
          point = s.point;
          real = s.real;
          is_allowed = listed-allowed lines list known meet (find-listed (says_in (pairs tsi tsr)) list meet e) s.point s.real s.inside;
          is_covered = sym (cov s.point) ∙ s.reached;
          can_be_said = s.sayable;
        }

    acceptable : (meet : Meet) → find (says_in (pairs tsi tsr)) list ≡ Some meet → SomeAcceptable lines tsi tsr
    acceptable meet e =
        let s = said-at meet e in
        record { point = s.point; place = meet.link; is_allowed = s.is_allowed; is_covered = s.is_covered; can_be_said = s.can_be_said }

    unacceptable : find (says_in (pairs tsi tsr)) list ≡ None → SomeAcceptable lines tsi tsr → ⊥
    unacceptable e a =
        let real = allowed-real lines a.place a.point a.is_allowed in
        let some = find-some (says_in (pairs tsi tsr)) list
        (point-passes (says_in (pairs tsi tsr)) a.place a.point
        (λ m same has. says-from (pairs tsi tsr) m.region (record {
          point = a.point;
          real = real;
          inside = has;
          reached = cov a.point ∙ a.is_covered;
          sayable = a.can_be_said;
        })) list (known a.place a.point real ∙ a.is_allowed)) in
        none-some some.0 (sym e ∙ some.1)

    whole-allowed : (place : ℕ) → leaves (pairs tsi tsr) (regions_of place list) ≡ false → AllAllowed lines place tsi tsr
    whole-allowed place none x real inside = kept-allowed lines list known (pairs tsi tsr) place none x real (cov x ∙ inside)

    whole-kept : (place : ℕ) → AllAllowed lines place tsi tsr → leaves (pairs tsi tsr) (regions_of place list) ≡ false
    whole-kept place all = allowed-kept lines list known (pairs tsi tsr) place (λ x real h. all x real (sym (cov x) ∙ h))

    -- ---- the notice

    missed : (region : AnyBox) → list_any (misses (pairs tsi tsr) region) list ≡ true →
        (x : PointFields) × ((place : ℕ) × ((allowed lines place x ≡ true) × ((covered tsi tsr x ≡ true) × (box_has region x ≡ false))))
    missed region h =
        let found = find-some (misses (pairs tsi tsr) region) list h in
        let meet = found.0 in
        let o = pieces-some (pairs tsi tsr) (box_minus meet.region region)
        (find-passes (misses (pairs tsi tsr) region) list meet found.1) in
        let p = and_parts (box_has meet.region o.point) (not (box_has region o.point))
        (sym (box_laws.minus_has meet.region region o.point) ∙ o.inside) in (
          o.point,
          (
            meet.link,
            (
              listed-allowed lines list known meet (find-listed (misses (pairs tsi tsr) region) list meet found.1) o.point o.real p.0,
              (sym (cov o.point) ∙ o.reached, not_true (box_has region o.point) p.1),
            ),
          ),
        )

    missed-from : (region : AnyBox) (place : ℕ) (x : PointFields) → allowed lines place x ≡ true → covered tsi tsr x ≡ true →
        box_has region x ≡ false → list_any (misses (pairs tsi tsr) region) list ≡ true
    missed-from region place x is_allowed is_covered lacks =
        let real = allowed-real lines place x is_allowed in
        point-passes (misses (pairs tsi tsr) region) place x
        (λ m same has. pieces-at (pairs tsi tsr) (box_minus m.region region) x real
        (box_laws.minus_has m.region region x ∙ and_from (box_has m.region x) (not (box_has region x)) has (ap not lacks))
        (cov x ∙ is_covered))
        list (known place x real ∙ is_allowed)

    tells : (chosen : Choice) → Right chosen → TellsOfLeft lines tsi tsr (answer_of tsi tsr (pairs tsi tsr) list chosen)
    tells chosen right = (
      λ h.
          let m = missed chosen.region h in
          let x = m.0 in
          let real = allowed-real lines m.1.0 x m.1.1.0 in
          record {
            point = x;
            place = m.1.0;
            is_allowed = m.1.1.0;
            is_covered = m.1.1.1.0;
            is_left = right.covers x real ∙ and_right (covered tsi tsr x) (box_has chosen.region x) m.1.1.1.1;
          },
      λ left.
          let real = allowed-real lines left.place left.point left.is_allowed in
          missed-from chosen.region left.place left.point left.is_allowed left.is_covered
          (false_from_ne_true (box_has chosen.region left.point) (λ has.
          false≢true (sym left.is_left ∙ right.covers left.point real
          ∙ and_from (covered tsi tsr left.point) (box_has chosen.region left.point) left.is_covered has))),
    )

    within : (chosen : Choice) → Right chosen → IsWithin lines tsi tsr (answer_of tsi tsr (pairs tsi tsr) list chosen)
    within chosen right x real inside =
        let p = and_parts (covered tsi tsr x) (box_has chosen.region x) (sym (right.covers x real) ∙ inside) in
        (p.0, right.allows x real p.1)

    keeps : (chosen : Choice) → Right chosen →
        ((some : SomeFirst tsi tsr) (place : ℕ) → AllAllowed lines place (take 1 tsi) (take 1 tsr) → (x : PointFields) → IsReal x →
        covered (take 1 tsi) (take 1 tsr) x ≡ true → box_has chosen.region x ≡ true) →
        KeepsFirst lines tsi tsr (answer_of tsi tsr (pairs tsi tsr) list chosen)
    keeps chosen right holds some place all x real inside =
        right.covers x real
        ∙ and_from (covered tsi tsr x) (box_has chosen.region x) (first-covered tsi tsr x inside) (holds some place all x real inside)

    -- ---- the answer

    record IsAnswered (answer : Narrowed) : Type 0 where
      within_is : IsWithin lines tsi tsr answer
      some_is : CoversSome answer
      keeps_is : KeepsFirst lines tsi tsr answer
      tells_is : TellsOfLeft lines tsi tsr answer
      refuses_is : RefusesRightly lines tsi tsr answer
      acceptable_is : (some_tsi some_tsr : List Ts) (place : ℕ) (additional : Bool) → answer ≡ Pair some_tsi some_tsr place additional →
          SomeAcceptable lines tsi tsr
      gives_is : (place : ℕ) → SomeAcceptable lines tsi tsr → AllAllowed lines place tsi tsr → answer ≡ Pair tsi tsr place false
      narrowing_is : IsNarrowing lines list tsi tsr answer

    -- Where the line of the meet doesn't allow all, none does.
    none-allows : (meet : Meet) → find (says_in (pairs tsi tsr)) list ≡ Some meet →
        leaves (pairs tsi tsr) (regions_of meet.link list) ≡ true → NoneAllows lines tsi tsr
    none-allows meet e left place all =
        let a = said-at meet e in
        let same : meet.link ≡ place = allowed-one lines meet.link place a.point a.is_allowed (all a.point a.real a.is_covered) in
        false≢true
        (sym (whole-kept place all) ∙ subst (λ (n : ℕ). leaves (pairs tsi tsr) (regions_of n list) ≡ true) same left)

    chosen-answered : (meet : Meet) → find (says_in (pairs tsi tsr)) list ≡ Some meet →
        leaves (pairs tsi tsr) (regions_of meet.link list) ≡ true →
        IsAnswered (answer_of tsi tsr (pairs tsi tsr) list (choice (pairs tsi tsr) (first_pair tsi tsr) meet list))
    chosen-answered meet e left =
        let chosen = choice (pairs tsi tsr) (first_pair tsi tsr) meet list in
        let right = choice-right lines list known tsi tsr hi hr meet e in
        let s = choice-some lines list known tsi tsr hi hr meet e in
        record {
          within_is = within chosen right;
          some_is = record {
            point = s.point;
            real = s.real;
            is_covered = right.covers s.point s.real
                ∙ and_from (covered tsi tsr s.point) (box_has chosen.region s.point) s.is_covered s.inside;
          };
          keeps_is = keeps chosen right (choice-first lines list known tsi tsr hi hr meet);
          tells_is = tells chosen right;
          refuses_is = (λ same. cc, λ none. absurd (none (acceptable meet e)));
          acceptable_is = λ t u place additional same. acceptable meet e;
          gives_is = λ place some all. absurd (none-allows meet e left place all);
          narrowing_is = (
            acceptable meet e,
            choice-picked lines list known tsi tsr hi hr (none-allows meet e left) meet e,
            tells chosen right,
          );
        }

    whole-answered : (meet : Meet) → find (says_in (pairs tsi tsr)) list ≡ Some meet →
        leaves (pairs tsi tsr) (regions_of meet.link list) ≡ false → IsAnswered (Pair tsi tsr meet.link false)
    whole-answered meet e none = record {
      within_is = λ x real inside. (inside, whole-allowed meet.link none x real inside);
      some_is = let a = said-at meet e in record { point = a.point; real = a.real; is_covered = a.is_covered };
      keeps_is = λ some place all x real inside. first-covered tsi tsr x inside;
      tells_is = (λ h. cc, λ left. absurd (false≢true (sym left.is_left ∙ left.is_covered)));
      refuses_is = (λ same. cc, λ no. absurd (no (acceptable meet e)));
      acceptable_is = λ t u place additional same. acceptable meet e;
      gives_is = λ place some all.
          let a = said-at meet e in
          ap (λ (n : ℕ). Pair tsi tsr n false) (allowed-one lines meet.link place a.point a.is_allowed (all a.point a.real a.is_covered));
      narrowing_is = (
        acceptable meet e,
        by_all meet.link (whole-allowed meet.link none) refl,
        (λ h. cc, λ left. absurd (false≢true (sym left.is_left ∙ left.is_covered))),
      );
    }

    refused-answered : find (says_in (pairs tsi tsr)) list ≡ None → IsAnswered Unacceptable
    refused-answered e = record {
      within_is = tt;
      some_is = tt;
      keeps_is = tt;
      tells_is = tt;
      refuses_is = (λ same some. unacceptable e some, λ none. refl);
      acceptable_is = λ t u place additional same. cc;
      gives_is = λ place some all. absurd (unacceptable e some);
      narrowing_is = unacceptable e;
    }

    meets-answered : IsAnswered (by_meets list tsi tsr)
    meets-answered = go (find (says_in (pairs tsi tsr)) list) refl
      where
        left : (meet : Meet) → find (says_in (pairs tsi tsr)) list ≡ Some meet → (b : Bool) →
            leaves (pairs tsi tsr) (regions_of meet.link list) ≡ b →
            IsAnswered (cond b (answer_of tsi tsr (pairs tsi tsr) list (choice (pairs tsi tsr) (first_pair tsi tsr) meet list))
            (Pair tsi tsr meet.link false))
        left meet e true h = chosen-answered meet e h
        left meet e false h = whole-answered meet e h

        go : (o : Option Meet) → find (says_in (pairs tsi tsr)) list ≡ o →
            IsAnswered (by_said tsi tsr (pairs tsi tsr) list o)
        go None e = refused-answered e
        go (Some meet) e = left meet e (leaves (pairs tsi tsr) (regions_of meet.link list)) refl

-- ---- the answer to a proposal, by entries that stand for a policy

module _ (lines : List LineParts) (outbound inbound : List Entry) (both : StandForBoth lines outbound inbound)
    (tsi tsr : List Ts) (hi : AreSelectors tsi) (hr : AreSelectors tsr)
  where
    abbrev Answered : Narrowed → Type 0
    Answered answer = IsAnswered lines (meets outbound inbound) (meets-allowed lines outbound inbound both) tsi tsr hi hr answer

    answered : Answered (narrowing outbound inbound tsi tsr)
    unfolding narrowing
    answered = meets-answered lines (meets outbound inbound) (meets-allowed lines outbound inbound both) tsi tsr hi hr

    pub narrowing-within : IsWithin lines tsi tsr (narrowing outbound inbound tsi tsr)
    narrowing-within = answered.within_is

    pub narrowing-some : CoversSome (narrowing outbound inbound tsi tsr)
    narrowing-some = answered.some_is

    pub narrowing-first : KeepsFirst lines tsi tsr (narrowing outbound inbound tsi tsr)
    narrowing-first = answered.keeps_is

    pub narrowing-notice : TellsOfLeft lines tsi tsr (narrowing outbound inbound tsi tsr)
    narrowing-notice = answered.tells_is

    pub narrowing-unacceptable : RefusesRightly lines tsi tsr (narrowing outbound inbound tsi tsr)
    narrowing-unacceptable = answered.refuses_is

    pub narrowing-whole : GivesWhole lines tsi tsr (narrowing outbound inbound tsi tsr)
    narrowing-whole place = (
      λ same. (
        answered.acceptable_is tsi tsr place false same,
        λ x real inside. (subst (IsWithin lines tsi tsr) same answered.within_is x real inside).1,
      ),
      λ both. answered.gives_is place both.0 both.1,
    )

    pub narrowing-is : IsNarrowing lines (meets outbound inbound) tsi tsr (narrowing outbound inbound tsi tsr)
    narrowing-is = answered.narrowing_is

    pub narrowing-right : IsRightAnswer lines tsi tsr (narrowing outbound inbound tsi tsr)
    narrowing-right = record {
      refuses = narrowing-unacceptable;
      whole = narrowing-whole;
      within = narrowing-within;
      some = narrowing-some;
      first = narrowing-first;
      left = narrowing-notice;
    }
