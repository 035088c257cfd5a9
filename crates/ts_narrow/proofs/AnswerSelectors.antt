-- A payload can have the selectors of an answer, which are two for each proposed one at most.
use Rattle.std.proofs.Common.{◌≡◌, ◌*◌, ◌≤◌, Bool, true, false, cond, List, [], ◌∷◌, length, take, Option, Some, None, refl, arith}
use Rattle.std.specs.List.{find, list_all}
use Rattle.std.proofs.lemmas.Bool.{and_from, and_parts}
use Rattle.spd_cut.specs.declared.entry.Entry.{Entry}
use Rattle.ts_payload.specs.declared.selector.Ts.{Ts}
use Rattle.ts_payload.specs.Selector.{AreSelectors, is_selector}
use Rattle.ts_span.specs.Spelling.{is_writable}
use Rattle.ts_cover.specs.Pairs.{first_pair, pairs}
use Rattle.ts_cover.specs.RealParts.{leaves, says}
use Rattle.ts_cover.specs.Writing.{can_write, local_side, remote_side}
use Rattle.ts_cover.proofs.CutSides.{cut_selectors-few, cut_selectors-right}
use Rattle.ts_narrow.specs.declared.choice.Choice.{Choice}
use Rattle.ts_narrow.specs.declared.choice.Form.{Form}
use Rattle.ts_narrow.specs.declared.meets.Meet.{Meet}
use Rattle.ts_narrow.specs.declared.narrowed.Narrowed.TheVariants.{Pair}
use Rattle.ts_narrow.specs.Answered.{HasSelectors}
use Rattle.ts_narrow.specs.Meets.{meets, regions_of}
use Rattle.ts_narrow.specs.Narrowing.{answer_of, by_meets, by_said, choice, narrowing, tsi_of, tsr_of}
use Rattle.ts_narrow.proofs.Found.{find-passes, says_in}
use Rattle.ts_narrow.proofs.Served.{choice-writable}

first_right : (list : List Ts) → AreSelectors list → AreSelectors (take 1 list) × (length (take 1 list) ≤ 2 * length list)
first_right [] h = (refl, omega arith)
first_right (s ∷ list) h = (and_from (is_selector s) true (and_parts (is_selector s) (list_all is_selector list) h).0 refl, omega arith)

-- The selectors of the answer.
cut_right : (chosen : Choice) (form : Form) (tsi tsr : List Ts) → AreSelectors tsi → AreSelectors tsr →
    (form ≡ Form.Cut → can_write chosen.region ≡ true) →
    (AreSelectors (tsi_of chosen form tsi) × AreSelectors (tsr_of chosen form tsr))
    × ((length (tsi_of chosen form tsi) ≤ 2 * length tsi) × (length (tsr_of chosen form tsr) ≤ 2 * length tsr))
cut_right chosen Form.Cut tsi tsr hi hr writable =
    let sides = and_parts (is_writable (local_side chosen.region)) (is_writable (remote_side chosen.region)) (writable refl) in (
      (cut_selectors-right (remote_side chosen.region) tsi hi sides.1, cut_selectors-right (local_side chosen.region) tsr hr sides.0),
      (cut_selectors-few (remote_side chosen.region) tsi hi sides.1, cut_selectors-few (local_side chosen.region) tsr hr sides.0),
    )
cut_right chosen Form.FirstPair tsi tsr hi hr writable =
    let i = first_right tsi hi in
    let r = first_right tsr hr in
    ((i.0, r.0), (i.1, r.1))

module _ (list : List Meet) (tsi tsr : List Ts) (hi : AreSelectors tsi) (hr : AreSelectors tsr) where
  pub by_meets-selectors : HasSelectors tsi tsr (by_meets list tsi tsr)
  by_meets-selectors = go (find (says_in (pairs tsi tsr)) list) refl
    where
      left : (meet : Meet) → says (pairs tsi tsr) meet.region ≡ true → (b : Bool) →
          HasSelectors tsi tsr (cond b (answer_of tsi tsr (pairs tsi tsr) list (choice (pairs tsi tsr) (first_pair tsi tsr) meet list))
          (Pair tsi tsr meet.link false))
      left meet h true =
          let chosen = choice (pairs tsi tsr) (first_pair tsi tsr) meet list in
          cut_right chosen chosen.form tsi tsr hi hr (choice-writable (pairs tsi tsr) (first_pair tsi tsr) meet list h)
      left meet h false = ((hi, hr), (omega arith, omega arith))

      go : (o : Option Meet) → find (says_in (pairs tsi tsr)) list ≡ o →
          HasSelectors tsi tsr (by_said tsi tsr (pairs tsi tsr) list o)
      go None e = tt
      go (Some meet) e =
          left meet (find-passes (says_in (pairs tsi tsr)) list meet e) (leaves (pairs tsi tsr) (regions_of meet.link list))

pub narrowing-selectors : (outbound inbound : List Entry) (tsi tsr : List Ts) → AreSelectors tsi → AreSelectors tsr →
    HasSelectors tsi tsr (narrowing outbound inbound tsi tsr)
unfolding narrowing
narrowing-selectors outbound inbound tsi tsr hi hr = by_meets-selectors (meets outbound inbound) tsi tsr hi hr
