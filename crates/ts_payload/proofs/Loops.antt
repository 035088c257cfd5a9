-- One selector after another, as the loop reads them.
use Rattle.std.proofs.Common.{◌≡◌, ℕ, suc, ◌+◌, ◌-◌, ◌<◌, ◌≤◌, true, false, eqb, List, [], ◌∷◌, ◌++◌, length, Option, Some, None, Result, Ok, Err, refl, sym}
use Rattle.std.proofs.Common.{ap, ◌∙◌, arith}
use Rattle.std.specs.Prelude.{IfSome}
use Rattle.std.specs.List.{list_all}
use Rattle.std.specs.Option.{option_to_list}
use Rattle.std.proofs.lemmas.Bool.{and_from, and_parts, eqb-true}
use Rattle.std.proofs.lemmas.List.{append-nil, length-append, nil_from_length}
use Rattle.ts_payload.specs.declared.selector.Ts.{Ts}
use Rattle.ts_payload.specs.declared.fault.TsFault.{TsFault}
use Rattle.ts_payload.specs.declared.fault.TsFault.TheVariants.{CountMismatch}
use Rattle.ts_payload.specs.Selector.{is_selector}
use Rattle.ts_payload.specs.Piece.{behind_piece, first_piece, next_fault, selector_in}
use Rattle.ts_payload.specs.Reading.{selectors_of, with_front}
use Rattle.ts_payload.proofs.Selectors.{selectors_of-fault, selectors_of-left, selectors_of-nothing, selectors_of-step, with_front-append}

-- what all bytes give, with so many selectors read
abbrev pub GoesOn : ℕ → ℕ → List Ts → List ℕ → Result (List Ts) TsFault → Type 0
GoesOn count done front rest whole = with_front front (selectors_of (count - done) (done + 1) rest) ≡ whole

pub refused_at : (count done : ℕ) (front : List Ts) (rest : List ℕ) (fault : TsFault) (whole : Result (List Ts) TsFault) → done < count
    → next_fault (done + 1) rest ≡ Some fault → GoesOn count done front rest whole → whole ≡ Err fault
refused_at count done front rest fault whole less h so_far =
    let k : count - done ≡ suc (count - (done + 1)) = omega arith in
    sym so_far
    ∙ (ap (λ (n : ℕ). with_front front (selectors_of n (done + 1) rest)) k
    ∙ ap (λ (r : Result (List Ts) TsFault). with_front front r) (selectors_of-fault (count - (done + 1)) (done + 1) rest fault h))

pub goes_on : (count done : ℕ) (front : List Ts) (rest : List ℕ) (whole : Result (List Ts) TsFault) → done < count
    → next_fault (done + 1) rest ≡ None → GoesOn count done front rest whole
    → GoesOn count (done + 1) (front ++ option_to_list (selector_in (first_piece rest))) (behind_piece rest) whole
goes_on count done front rest whole less h so_far =
    let k : count - done ≡ suc (count - (done + 1)) = omega arith in
    let others = selectors_of (count - (done + 1)) (done + 1 + 1) (behind_piece rest) in
    sym (with_front-append front (option_to_list (selector_in (first_piece rest))) others)
    ∙ (sym (ap (λ (r : Result (List Ts) TsFault). with_front front r) (selectors_of-step (count - (done + 1)) (done + 1) rest h))
    ∙ (sym (ap (λ (n : ℕ). with_front front (selectors_of n (done + 1) rest)) k) ∙ so_far))

pub left_over_at : (count done : ℕ) (front : List Ts) (rest : List ℕ) (whole : Result (List Ts) TsFault) → count ≤ done
    → eqb (length rest) 0 ≡ false → GoesOn count done front rest whole → whole ≡ Err CountMismatch
left_over_at count done front [] whole all more so_far = absurd cc
left_over_at count done front (byte ∷ bytes) whole all more so_far =
    let k : count - done ≡ 0 = omega arith in
    sym so_far
    ∙ (ap (λ (n : ℕ). with_front front (selectors_of n (done + 1) (byte ∷ bytes))) k
    ∙ ap (λ (r : Result (List Ts) TsFault). with_front front r) (selectors_of-left (done + 1) byte bytes))

pub ended_at : (count done : ℕ) (front : List Ts) (rest : List ℕ) (whole : Result (List Ts) TsFault) → count ≤ done
    → eqb (length rest) 0 ≡ true → GoesOn count done front rest whole → whole ≡ Ok front
ended_at count done front rest whole all none so_far =
    let k : count - done ≡ 0 = omega arith in
    let e : rest ≡ [] = nil_from_length rest (eqb-true (length rest) 0 none) in
    sym so_far
    ∙ (ap (λ (n : ℕ). with_front front (selectors_of n (done + 1) rest)) k
    ∙ (ap (λ (xs : List ℕ). with_front front (selectors_of 0 (done + 1) xs)) e
    ∙ (ap (λ (r : Result (List Ts) TsFault). with_front front r) (selectors_of-nothing (done + 1)) ∙ ap Ok (append-nil front))))

pub more_selectors : (selectors : List Ts) (more : Option Ts) → list_all is_selector selectors ≡ true
    → IfSome more (λ selector. is_selector selector ≡ true) → list_all is_selector (selectors ++ option_to_list more) ≡ true
more_selectors [] None h i = refl
more_selectors [] (Some selector) h i = and_from (is_selector selector) true i refl
more_selectors (first ∷ others) more h i =
    let parts = and_parts (is_selector first) (list_all is_selector others) h in
    and_from (is_selector first) (list_all is_selector (others ++ option_to_list more)) parts.0 (more_selectors others more parts.1 i)

pub one_more : (selectors : List Ts) (more : Option Ts) → length (selectors ++ option_to_list more) ≤ length selectors + 1
one_more selectors None = omega (arith, length-append selectors [])
one_more selectors (Some selector) = omega (arith, length-append selectors (selector ∷ []))
