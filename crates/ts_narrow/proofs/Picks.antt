-- What is chosen is what the relation by points picks.
use Rattle.std.proofs.Common.{◌≡◌, ℕ, ◌≤◌, Bool, true, false, ◌==◌, ◌&&◌, ◌||◌, cond, List, [], ◌∷◌, take, Option, Some, None}
use Rattle.std.proofs.Common.{inl, inr, refl, sym, subst, ap, ◌∙◌, arith}
use Rattle.std.specs.List.{find}
use Rattle.std.specs.Option.{unwrap_or}
use Rattle.std.proofs.lemmas.Bool.{and_from, cases_lt, eq-eqb, false≢true, or_cases, or_left, or_right}
use Rattle.std.proofs.lemmas.Option.{none-some}
use Rattle.sel_region.specs.Interval.{high_of}
use Rattle.sel_region.proofs.Regions.{within-by_points}
use Rattle.sel_box.specs.declared.any_box.AnyBox.{AnyBox}
use Rattle.sel_box.specs.declared.any_box.AxisName.{AxisName}
use Rattle.sel_box.specs.BoxRegion.{box_low, box_within}
use Rattle.sel_box.specs.Boxes.{box_has, range_at}
use Rattle.sel_box.specs.Point.{IsReal, PointFields}
use Rattle.sel_box.specs.laws.BoxLaws.{box_laws}
use Rattle.spd_line.specs.declared.line.LineParts.{LineParts}
use Rattle.ts_payload.specs.declared.selector.Ts.{Ts}
use Rattle.ts_payload.specs.Selector.{AreSelectors}
use Rattle.ts_span.specs.Spelling.{has_number}
use Rattle.ts_cover.specs.Covered.{covered}
use Rattle.ts_cover.specs.Pairs.{boxes_have, first_pair, pairs}
use Rattle.ts_cover.specs.RealParts.{says}
use Rattle.ts_cover.specs.Writing.{can_write, first_part, local_side, written_part}
use Rattle.ts_cover.proofs.PairPoints.{pairs-points}
use Rattle.ts_cover.proofs.Reached.{reaches-some, says-from, says-some}
use Rattle.ts_cover.proofs.Written.{IsFirstPart, first_part-is, first_part-least, first_part-some, number_writes, one_protocol, part-has}
use Rattle.ts_cover.proofs.Written.{part_points}
use Rattle.ts_narrow.specs.declared.choice.Choice.{Choice}
use Rattle.ts_narrow.specs.declared.meets.Meet.{Meet}
use Rattle.ts_narrow.specs.Allowed.{allowed}
use Rattle.ts_narrow.specs.IsNarrowing.{HasSayable, HaveOneProtocol, IsByFirst, IsByMeet, IsFirst, IsLeast, IsPart, IsPicked}
use Rattle.ts_narrow.specs.IsNarrowing.{NoneAllows, Picked, Serves, all_cut}
use Rattle.ts_narrow.specs.IsNarrowing.IsByFirst.{is_alone, of_serving}
use Rattle.ts_narrow.specs.IsNarrowing.IsByMeet.{of_any, of_first}
use Rattle.ts_narrow.specs.IsNarrowing.IsPart.{is_least, is_whole}
use Rattle.ts_narrow.specs.IsNarrowing.IsPicked.{by_first, by_meet}
use Rattle.ts_narrow.specs.Meets.{regions_of}
use Rattle.ts_narrow.specs.Narrowing.{by_link, by_saying, by_serving, choice, cut_to, kept_link, serves, tsi_of, tsr_of}
use Rattle.ts_narrow.proofs.FirstPair.{first-box, first-boxes, first-none}
use Rattle.ts_narrow.proofs.Found.{find-passes, says_in}
use Rattle.ts_narrow.proofs.Kept.{IsKept, kept-is, kept-link}
use Rattle.ts_narrow.proofs.Served.{HoldsFirst, number-points, served-says, serves-is}

-- ---- the first meet that has a property

-- A test that tells the property finds it;
first-found : (p : Meet → Bool) (P : Meet → Type 0) → ((m : Meet) → p m ≡ true → P m) → ((m : Meet) → P m → p m ≡ true) →
    (list : List Meet) → IsFirst P list (find p list)
first-found p P there back [] = refl
first-found p P there back (m ∷ list) = go (first-found p P there back list) (p m) refl
  where
    go : IsFirst P list (find p list) → (b : Bool) → p m ≡ b → IsFirst P (m ∷ list) (cond b (Some m) (find p list))
    go later true e = inl (there m e, refl)
    go later false e = inr ((λ has. false≢true (sym e ∙ back m has)), later)

-- where no meet has it, none is found.
none-found : (P : Meet → Type 0) → ((m : Meet) → P m → ⊥) → (list : List Meet) → IsFirst P list None
none-found P none [] = refl
none-found P none (m ∷ list) = inr (none m, none-found P none list)

-- ---- by boxes that have the points that selectors cover

module _ (boxes : List AnyBox) (tsi tsr : List Ts) (same : (x : PointFields) → boxes_have boxes x ≡ covered tsi tsr x) where
  has_sayable : (m : Meet) → says boxes m.region ≡ true → HasSayable tsi tsr m
  has_sayable m h =
      let s = says-some boxes m.region h in
      record { point = s.point; real = s.real; inside = s.inside; is_covered = sym (same s.point) ∙ s.reached; can_be_said = s.sayable }

  sayable-says : (m : Meet) → HasSayable tsi tsr m → says boxes m.region ≡ true
  sayable-says m s =
      says-from boxes m.region
      (record { point = s.point; real = s.real; inside = s.inside; reached = same s.point ∙ s.is_covered; sayable = s.can_be_said })

  -- The first meet with a sayable point,
  first-sayable : (list : List Meet) (found : Option Meet) → find (says_in boxes) list ≡ found → IsFirst (HasSayable tsi tsr) list found
  first-sayable list found e =
      subst (λ (o : Option Meet). IsFirst (HasSayable tsi tsr) list o) e
      (first-found (says_in boxes) (HasSayable tsi tsr) has_sayable sayable-says list)

  -- the least protocol of one that can't be written,
  least-is : (meet : Meet) (part : AnyBox) (protocol : ℕ) → protocol ≤ 255 → IsFirstPart boxes meet.region part 1 protocol →
      IsLeast tsi tsr meet protocol
  least-is meet part protocol below found =
      let r = reaches-some boxes part found.reached in
      let p = part_points meet.region part protocol below found.is r.point r.inside in
      record {
        above = found.above;
        below = below;
        has = record { point = r.point; real = r.real; inside = p.0; is_covered = sym (same r.point) ∙ r.reached; is_of = p.1 };
        least = λ other from has. elim (cases_lt other protocol) [
          | inl under ↦
              absurd (first_part-least boxes meet.region part 1 protocol found other from under (omega arith) has.point has.real has.inside
              (same has.point ∙ has.is_covered) has.is_of)
          | inr over ↦ over
        ];
      }

  -- and what is written of a meet.
  part-is : (meet : Meet) → (can_write meet.region ≡ false → says boxes meet.region ≡ true) →
      IsPart tsi tsr meet (written_part boxes meet.region)
  unfolding written_part
  part-is meet sayable = go (can_write meet.region) refl
    where
      least : can_write meet.region ≡ false → (o : Option AnyBox) → first_part boxes meet.region ≡ o →
          IsPart tsi tsr meet (unwrap_or o meet.region)
      least unwritten None e =
          let some = first_part-some boxes meet.region (sayable unwritten) in
          absurd (none-some some.0 (sym e ∙ some.1))
      least unwritten (Some part) e =
          let found = first_part-is boxes meet.region part e in
          let under = found.1.0 in
          let below : found.0 ≤ 255 = omega arith in
          is_least unwritten found.0 (least-is meet part found.0 below found.1.1) (part-has meet.region part found.0 below found.1.1.is)

      go : (b : Bool) → can_write meet.region ≡ b →
          IsPart tsi tsr meet (cond b meet.region (unwrap_or (first_part boxes meet.region) meet.region))
      go true e = is_whole e refl
      go false e = least e (first_part boxes meet.region) refl

-- ---- a meet that serves the first selectors

module _ (tsi tsr : List Ts) (hi : AreSelectors tsi) (hr : AreSelectors tsr) (box : AnyBox) (is : first_pair tsi tsr ≡ Some box) where
  points : (x : PointFields) → box_has box x ≡ covered (take 1 tsi) (take 1 tsr) x
  points x = first-box tsi tsr hi hr box is x

  one-is : has_number (local_side box) ≡ true → HaveOneProtocol (take 1 tsi) (take 1 tsr)
  one-is number =
      let low = number-points box (box_low box) number (box_laws.has_low box) in
      record {
        protocol = (range_at AxisName.Protocol box).low;
        above = low.1;
        below = low.2;
        each = λ x inside. (number-points box x number (points x ∙ inside)).0;
      }

  one-number : HaveOneProtocol (take 1 tsi) (take 1 tsr) → has_number (local_side box) ≡ true
  one-number one =
      let o = one_protocol box one.protocol (λ x inside. one.each x (sym (points x) ∙ inside)) in
      number_writes (range_at AxisName.Protocol box).low (high_of (range_at AxisName.Protocol box)) one.protocol o.low o.high one.above
      one.below

  serves-there : (place : ℕ) (m : Meet) → serves box place m ≡ true → Serves place (take 1 tsi) (take 1 tsr) m
  serves-there place m h =
      let s = serves-is box place m h in
      record {
        of_line = s.link;
        holds = λ x inside. s.holds x (points x ∙ inside);
        keeps = elim (or_cases (can_write m.region) (has_number (local_side box)) s.writes) [
          | inl whole ↦ inl whole
          | inr number ↦ inr (one-is number)
        ];
      }

  serves-back : (place : ℕ) (m : Meet) → Serves place (take 1 tsi) (take 1 tsr) m → serves box place m ≡ true
  serves-back place m s =
      let writes : (can_write m.region || has_number (local_side box)) ≡ true =
      elim s.keeps [
        | inl whole ↦ or_left (can_write m.region) (has_number (local_side box)) whole
        | inr one ↦ or_right (can_write m.region) (has_number (local_side box)) (one-number one)
      ] in
      and_from (m.link == place) (box_within box m.region && (can_write m.region || has_number (local_side box)))
      (eq-eqb m.link place s.of_line)
      (and_from (box_within box m.region) (can_write m.region || has_number (local_side box))
      ((within-by_points box_laws box m.region).1 (λ x inside. s.holds x (sym (points x) ∙ inside))) writes)

  -- The first meet that serves them.
  first-serving : (place : ℕ) (list : List Meet) (found : Option Meet) → find (serves box place) list ≡ found →
      IsFirst (Serves place (take 1 tsi) (take 1 tsr)) list found
  first-serving place list found e =
      subst (λ (o : Option Meet). IsFirst (Serves place (take 1 tsi) (take 1 tsr)) list o) e
      (first-found (serves box place) (Serves place (take 1 tsi) (take 1 tsr)) (serves-there place) (serves-back place) list)

-- ---- what is picked

-- What a choice picks.
abbrev pub picked_by : List Ts → List Ts → Choice → Picked
picked_by tsi tsr chosen = record { tsi = tsi_of chosen chosen.form tsi; tsr = tsr_of chosen chosen.form tsr; link = chosen.link }

module _ (lines : List LineParts) (list : List Meet)
    (known : (place : ℕ) (x : PointFields) → IsReal x → boxes_have (regions_of place list) x ≡ allowed lines place x)
    (tsi tsr : List Ts) (hi : AreSelectors tsi) (hr : AreSelectors tsr)
  where
    -- By the meet that was found for the whole proposal,
    by_cover : (said : Meet) → find (says_in (pairs tsi tsr)) list ≡ Some said → IsFirst (HasSayable (take 1 tsi) (take 1 tsr)) list None →
        IsByMeet list tsi tsr (picked_by tsi tsr (cut_to (pairs tsi tsr) said))
    by_cover said e none =
        let cov : (x : PointFields) → boxes_have (pairs tsi tsr) x ≡ covered tsi tsr x = λ x. pairs-points tsi tsr x hi hr in
        of_any none said (first-sayable (pairs tsi tsr) tsi tsr cov list (Some said) e) (written_part (pairs tsi tsr) said.region)
        (part-is (pairs tsi tsr) tsi tsr cov said (λ unwritten. find-passes (says_in (pairs tsi tsr)) list said e)) refl

    module _ (box : AnyBox) (is : first_pair tsi tsr ≡ Some box) where
      firsts : (x : PointFields) → boxes_have (box ∷ []) x ≡ covered (take 1 tsi) (take 1 tsr) x
      firsts x = first-boxes tsi tsr hi hr box is x

      -- by one that has a sayable point of the first pair,
      by_said_meet : (said : Meet) → find (says_in (pairs tsi tsr)) list ≡ Some said → (o : Option Meet) →
          find (says_in (box ∷ [])) list ≡ o → IsByMeet list tsi tsr (picked_by tsi tsr (by_saying (pairs tsi tsr) box said o))
      by_said_meet said e None g = by_cover said e (first-sayable (box ∷ []) (take 1 tsi) (take 1 tsr) firsts list None g)
      by_said_meet said e (Some meet) g =
          of_first meet (first-sayable (box ∷ []) (take 1 tsi) (take 1 tsr) firsts list (Some meet) g) (written_part (box ∷ []) meet.region)
          (part-is (box ∷ []) (take 1 tsi) (take 1 tsr) firsts meet (λ unwritten. find-passes (says_in (box ∷ [])) list meet g)) refl

      -- by one that serves it,
      by_served : (place : ℕ) → IsKept lines list known box place → (o : Option Meet) → find (serves box place) list ≡ o →
          IsByFirst list tsi tsr place (picked_by tsi tsr (by_serving box place o))
      by_served place kept None g = is_alone (first-serving tsi tsr hi hr box is place list None g) refl
      by_served place kept (Some meet) g =
          let holds : HoldsFirst box place meet = serves-is box place meet (find-passes (serves box place) list meet g) in
          of_serving meet (first-serving tsi tsr hi hr box is place list (Some meet) g) (written_part (box ∷ []) meet.region)
          (part-is (box ∷ []) (take 1 tsi) (take 1 tsr) firsts meet (served-says box place meet kept.some holds))
          (ap (λ (n : ℕ). all_cut tsi tsr (written_part (box ∷ []) meet.region) n) holds.link)

      -- and by the line that keeps it.
      by_kept : NoneAllows lines tsi tsr → (said : Meet) → find (says_in (pairs tsi tsr)) list ≡ Some said → (o : Option ℕ) →
          kept_link box list ≡ o → IsPicked lines list tsi tsr (picked_by tsi tsr (by_link (pairs tsi tsr) box said list o))
      by_kept none said e None g =
          by_meet none
          (λ some place all. none-some place (sym g
          ∙ kept-link lines list known box place some.point some.real (points tsi tsr hi hr box is some.point ∙ some.is_covered)
          (λ x real has. all x real (sym (points tsi tsr hi hr box is x) ∙ has))))
          (by_said_meet said e (find (says_in (box ∷ [])) list) refl)
      by_kept none said e (Some place) g =
          let kept = kept-is lines list known box place g in
          let r = reaches-some (box ∷ []) box kept.some in
          by_first none (record { point = r.point; real = r.real; is_covered = sym (points tsi tsr hi hr box is r.point) ∙ r.inside }) place
          (λ x real inside. kept.all x real (points tsi tsr hi hr box is x ∙ inside))
          (by_served place kept (find (serves box place) list) refl)

    pub choice-picked : NoneAllows lines tsi tsr → (said : Meet) → find (says_in (pairs tsi tsr)) list ≡ Some said →
        IsPicked lines list tsi tsr (picked_by tsi tsr (choice (pairs tsi tsr) (first_pair tsi tsr) said list))
    choice-picked none said e = go (first_pair tsi tsr) refl
      where
        go : (o : Option AnyBox) → first_pair tsi tsr ≡ o →
            IsPicked lines list tsi tsr (picked_by tsi tsr (choice (pairs tsi tsr) o said list))
        go None f =
            by_meet none (λ some. absurd (false≢true (sym (first-none tsi tsr hi hr f some.point) ∙ some.is_covered)))
            (by_cover said e
            (none-found (HasSayable (take 1 tsi) (take 1 tsr))
            (λ m s. false≢true (sym (first-none tsi tsr hi hr f s.point) ∙ s.is_covered)) list))
        go (Some box) f = by_kept box f none said e (kept_link box list) refl
