-- What is chosen lies in what its line allows, keeps the first pair where one line allows that, and has a point of the proposal.
use Rattle.std.proofs.Common.{◌≡◌, ℕ, Bool, true, false, ◌&&◌, List, [], ◌∷◌, take, Option, Some, None, refl, sym, subst, ◌∙◌}
use Rattle.std.specs.List.{find}
use Rattle.std.proofs.lemmas.Bool.{and_from, and_right, false≢true}
use Rattle.sel_box.specs.declared.any_box.AnyBox.{AnyBox}
use Rattle.sel_box.specs.Boxes.{box_has}
use Rattle.sel_box.specs.Point.{IsReal, PointFields}
use Rattle.spd_line.specs.declared.line.LineParts.{LineParts}
use Rattle.ts_payload.specs.declared.selector.Ts.{Ts}
use Rattle.ts_payload.specs.Selector.{AreSelectors}
use Rattle.ts_cover.specs.Covered.{covered}
use Rattle.ts_cover.specs.Pairs.{boxes_have, first_pair, pairs}
use Rattle.ts_cover.specs.RealParts.{says}
use Rattle.ts_cover.specs.Writing.{can_write, written_part}
use Rattle.ts_cover.proofs.CutSides.{cut_selectors-cover}
use Rattle.ts_cover.proofs.PairPoints.{pairs-points}
use Rattle.ts_cover.proofs.Reached.{reaches-some}
use Rattle.ts_cover.proofs.Written.{written-can_write, written-inside}
use Rattle.ts_narrow.specs.declared.choice.Choice.{Choice}
use Rattle.ts_narrow.specs.declared.choice.Form.{Form}
use Rattle.ts_narrow.specs.declared.meets.Meet.{Meet}
use Rattle.ts_narrow.specs.Allowed.{allowed}
use Rattle.ts_narrow.specs.Answered.{AllAllowed, SomeFirst}
use Rattle.ts_narrow.specs.Meets.{regions_of}
use Rattle.ts_narrow.specs.Narrowing.{by_link, by_saying, by_serving, choice, cut_to, kept_link, serves, tsi_of, tsr_of}
use Rattle.ts_narrow.proofs.FirstPair.{first-box, first-boxes, first-covered, first-none}
use Rattle.ts_narrow.proofs.Found.{IsListed, find-listed, find-passes, says_in}
use Rattle.ts_narrow.proofs.Kept.{IsKept, kept-is, kept-link, listed-allowed}
use Rattle.ts_narrow.proofs.Served.{served-holds, served-writable, serves-is, written-reaches}

module _ (lines : List LineParts) (list : List Meet)
    (known : (place : ℕ) (x : PointFields) → IsReal x → boxes_have (regions_of place list) x ≡ allowed lines place x)
    (tsi tsr : List Ts) (hi : AreSelectors tsi) (hr : AreSelectors tsr)
  where
    abbrev Kept : AnyBox → ℕ → Type 0
    Kept first place = IsKept lines list known first place

    -- ---- what is chosen

    -- The selectors cover the part of the proposal that lies in the region, and the line allows that part.
    pub record IsRight (chosen : Choice) : Type 0 where
      pub writable : chosen.form ≡ Form.Cut → can_write chosen.region ≡ true
      pub covers : (x : PointFields) → IsReal x →
          covered (tsi_of chosen chosen.form tsi) (tsr_of chosen chosen.form tsr) x ≡ (covered tsi tsr x && box_has chosen.region x)
      pub allows : (x : PointFields) → IsReal x → box_has chosen.region x ≡ true → allowed lines chosen.link x ≡ true

    cut-right : (boxes : List AnyBox) (meet : Meet) → can_write (written_part boxes meet.region) ≡ true → IsListed list meet →
        IsRight (cut_to boxes meet)
    cut-right boxes meet writable listed = record {
      writable = λ e. writable;
      covers = λ x real. cut_selectors-cover (written_part boxes meet.region) tsi tsr x hi hr writable real;
      allows = λ x real has. listed-allowed lines list known meet listed x real (written-inside boxes meet.region x has);
    }

    first-right : (first : AnyBox) (place : ℕ) → first_pair tsi tsr ≡ Some first → Kept first place →
        IsRight (record { region = first; link = place; form = Form.FirstPair })
    first-right first place e kept = record {
      writable = λ f. cc;
      covers = λ x real. go x (box_has first x) refl (first-box tsi tsr hi hr first e x);
      allows = kept.all;
    }
      where
        go : (x : PointFields) (b : Bool) → box_has first x ≡ b → box_has first x ≡ covered (take 1 tsi) (take 1 tsr) x →
            covered (take 1 tsi) (take 1 tsr) x ≡ (covered tsi tsr x && box_has first x)
        go x true h same =
            sym same ∙ h ∙ sym (and_from (covered tsi tsr x) (box_has first x) (first-covered tsi tsr x (sym same ∙ h)) h)
        go x false h same = sym same ∙ h ∙ sym (and_right (covered tsi tsr x) (box_has first x) h)

    pub choice-right : (said : Meet) → find (says_in (pairs tsi tsr)) list ≡ Some said →
        IsRight (choice (pairs tsi tsr) (first_pair tsi tsr) said list)
    choice-right said e = go (first_pair tsi tsr) refl
      where
        by_cover : IsRight (cut_to (pairs tsi tsr) said)
        by_cover =
            cut-right (pairs tsi tsr) said
            (written-can_write (pairs tsi tsr) said.region (find-passes (says_in (pairs tsi tsr)) list said e))
            (find-listed (says_in (pairs tsi tsr)) list said e)

        serving : (first : AnyBox) (place : ℕ) → first_pair tsi tsr ≡ Some first → Kept first place → (o : Option Meet) →
            find (serves first place) list ≡ o → IsRight (by_serving first place o)
        serving first place f kept None g = first-right first place f kept
        serving first place f kept (Some meet) g =
            cut-right (first ∷ []) meet
            (served-writable first place meet kept.some (serves-is first place meet (find-passes (serves first place) list meet g)))
            (find-listed (serves first place) list meet g)

        saying : (first : AnyBox) (o : Option Meet) → find (says_in (first ∷ [])) list ≡ o →
            IsRight (by_saying (pairs tsi tsr) first said o)
        saying first None g = by_cover
        saying first (Some meet) g =
            cut-right (first ∷ []) meet
            (written-can_write (first ∷ []) meet.region (find-passes (says_in (first ∷ [])) list meet g))
            (find-listed (says_in (first ∷ [])) list meet g)

        link : (first : AnyBox) → first_pair tsi tsr ≡ Some first → (o : Option ℕ) → kept_link first list ≡ o →
            IsRight (by_link (pairs tsi tsr) first said list o)
        link first f None g = saying first (find (says_in (first ∷ [])) list) refl
        link first f (Some place) g =
            serving first place f (kept-is lines list known first place g) (find (serves first place) list) refl

        go : (o : Option AnyBox) → first_pair tsi tsr ≡ o → IsRight (choice (pairs tsi tsr) o said list)
        go None f = by_cover
        go (Some first) f = link first f (kept_link first list) refl

    -- ---- the first pair is kept where one line allows it

    pub choice-first : (said : Meet) → SomeFirst tsi tsr → (place : ℕ) → AllAllowed lines place (take 1 tsi) (take 1 tsr) →
        (x : PointFields) → IsReal x → covered (take 1 tsi) (take 1 tsr) x ≡ true →
        box_has (choice (pairs tsi tsr) (first_pair tsi tsr) said list).region x ≡ true
    choice-first said some place all x real inside = go (first_pair tsi tsr) refl
      where
        serving : (first : AnyBox) → box_has first x ≡ true → (o : Option Meet) → find (serves first place) list ≡ o →
            box_has (by_serving first place o).region x ≡ true
        serving first has None g = has
        serving first has (Some meet) g =
            served-holds first place meet (serves-is first place meet (find-passes (serves first place) list meet g)) x real has

        go : (o : Option AnyBox) → first_pair tsi tsr ≡ o → box_has (choice (pairs tsi tsr) o said list).region x ≡ true
        go None e = absurd (false≢true (sym (first-none tsi tsr hi hr e x) ∙ inside))
        go (Some first) e =
            let at : (y : PointFields) → box_has first y ≡ covered (take 1 tsi) (take 1 tsr) y = λ y. first-box tsi tsr hi hr first e y in
            let kept : kept_link first list ≡ Some place =
            kept-link lines list known first place some.point some.real (at some.point ∙ some.is_covered)
            (λ y r h. all y r (sym (at y) ∙ h)) in
            subst (λ (o : Option ℕ). box_has (by_link (pairs tsi tsr) first said list o).region x ≡ true) (sym kept)
            (serving first (at x ∙ inside) (find (serves first place) list) refl)

    -- ---- what is chosen has a real point of the proposal

    pub record HasSome (chosen : Choice) : Type 0 where
      pub point : PointFields
      pub real : IsReal point
      pub is_covered : covered tsi tsr point ≡ true
      pub inside : box_has chosen.region point ≡ true

    cut-some : (boxes : List AnyBox) (meet : Meet) → ((x : PointFields) → boxes_have boxes x ≡ true → covered tsi tsr x ≡ true) →
        says boxes meet.region ≡ true → HasSome (cut_to boxes meet)
    cut-some boxes meet are h =
        let r = reaches-some boxes (written_part boxes meet.region) (written-reaches boxes meet.region h) in
        record { point = r.point; real = r.real; is_covered = are r.point r.reached; inside = r.inside }

    first-inside : (first : AnyBox) → first_pair tsi tsr ≡ Some first → (x : PointFields) → boxes_have (first ∷ []) x ≡ true →
        covered tsi tsr x ≡ true
    first-inside first f x h = first-covered tsi tsr x (sym (first-boxes tsi tsr hi hr first f x) ∙ h)

    pub choice-some : (said : Meet) → find (says_in (pairs tsi tsr)) list ≡ Some said →
        HasSome (choice (pairs tsi tsr) (first_pair tsi tsr) said list)
    choice-some said e = go (first_pair tsi tsr) refl
      where
        by_cover : HasSome (cut_to (pairs tsi tsr) said)
        by_cover =
            cut-some (pairs tsi tsr) said (λ x h. sym (pairs-points tsi tsr x hi hr) ∙ h)
            (find-passes (says_in (pairs tsi tsr)) list said e)

        serving : (first : AnyBox) (place : ℕ) → first_pair tsi tsr ≡ Some first → Kept first place → (o : Option Meet) →
            find (serves first place) list ≡ o → HasSome (by_serving first place o)
        serving first place f kept None g =
            let r = reaches-some (first ∷ []) first kept.some in
            record { point = r.point; real = r.real; is_covered = first-inside first f r.point r.reached; inside = r.inside }
        serving first place f kept (Some meet) g =
            let r = reaches-some (first ∷ []) first kept.some in
            let serve = serves-is first place meet (find-passes (serves first place) list meet g) in
            record {
              point = r.point;
              real = r.real;
              is_covered = first-inside first f r.point r.reached;
              inside = served-holds first place meet serve r.point r.real r.inside;
            }

        saying : (first : AnyBox) → first_pair tsi tsr ≡ Some first → (o : Option Meet) →
            find (says_in (first ∷ [])) list ≡ o → HasSome (by_saying (pairs tsi tsr) first said o)
        saying first f None g = by_cover
        saying first f (Some meet) g =
            cut-some (first ∷ []) meet (first-inside first f) (find-passes (says_in (first ∷ [])) list meet g)

        link : (first : AnyBox) → first_pair tsi tsr ≡ Some first → (o : Option ℕ) → kept_link first list ≡ o →
            HasSome (by_link (pairs tsi tsr) first said list o)
        link first f None g = saying first f (find (says_in (first ∷ [])) list) refl
        link first f (Some place) g =
            serving first place f (kept-is lines list known first place g) (find (serves first place) list) refl

        go : (o : Option AnyBox) → first_pair tsi tsr ≡ o → HasSome (choice (pairs tsi tsr) o said list)
        go None f = by_cover
        go (Some first) f = link first f (kept_link first list) refl
