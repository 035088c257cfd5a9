-- A proposal has one answer by points.
use Rattle.std.proofs.Common.{◌≡◌, ℕ, ◌≤◌, ◌==◌, ◌&&◌, ◌↔◌, List, [], ◌∷◌, take, Option, Some, None}
use Rattle.std.proofs.Common.{inl, inr, refl, sym, subst, ap, ◌∙◌, arith}
use Rattle.std.specs.Prelude.{IsTrue}
use Rattle.std.proofs.lemmas.Bool.{false≢true}
use Rattle.std.proofs.lemmas.Option.{none-some, same_Some}
use Rattle.sel_box.specs.declared.any_box.AnyBox.{AnyBox}
use Rattle.sel_box.specs.Boxes.{box_has}
use Rattle.sel_box.specs.Point.{is_point}
use Rattle.sel_box.specs.laws.BoxLaws.{box_laws}
use Rattle.spd_line.specs.declared.line.LineParts.{LineParts}
use Rattle.ts_payload.specs.declared.selector.Ts.{Ts}
use Rattle.ts_span.proofs.Spans.{same_test}
use Rattle.ts_narrow.specs.declared.meets.Meet.{Meet}
use Rattle.ts_narrow.specs.declared.narrowed.Narrowed.{Narrowed}
use Rattle.ts_narrow.specs.declared.narrowed.Narrowed.TheVariants.{Pair, Unacceptable}
use Rattle.ts_narrow.specs.Answered.{SomeAcceptable, SomeLeft}
use Rattle.ts_narrow.specs.IsNarrowing.{HasSayable, IsByFirst, IsByMeet, IsFirst, IsLeast, IsNarrowing, IsPart, IsPicked}
use Rattle.ts_narrow.specs.IsNarrowing.{Picked, Serves, all_cut}
use Rattle.ts_narrow.specs.IsNarrowing.IsByFirst.{is_alone, of_serving}
use Rattle.ts_narrow.specs.IsNarrowing.IsByMeet.{of_any, of_first}
use Rattle.ts_narrow.specs.IsNarrowing.IsPart.{is_least, is_whole}
use Rattle.ts_narrow.specs.IsNarrowing.IsPicked.{by_all, by_first, by_meet}
use Rattle.ts_narrow.proofs.MeetPoints.{allowed-one, allowed-real}

-- ---- the first meet, and its part

first-one : (P : Meet → Type 0) (list : List Meet) (a b : Option Meet) → IsFirst P list a → IsFirst P list b → a ≡ b
first-one P [] a b p q = p ∙ sym q
first-one P (m ∷ list) a b (inl p) (inl q) = p.1 ∙ sym q.1
first-one P (m ∷ list) a b (inl p) (inr q) = absurd (q.0 p.0)
first-one P (m ∷ list) a b (inr p) (inl q) = absurd (p.0 q.0)
first-one P (m ∷ list) a b (inr p) (inr q) = first-one P list a b p.1 q.1

one-meet : (P : Meet → Type 0) (list : List Meet) (m n : Meet) → IsFirst P list (Some m) → IsFirst P list (Some n) → m ≡ n
one-meet P list m n p q = same_Some m n (first-one P list (Some m) (Some n) p q)

some-none : (P : Meet → Type 0) (list : List Meet) (m : Meet) → IsFirst P list (Some m) → IsFirst P list None → ⊥
some-none P list m p q = none-some m (first-one P list None (Some m) q p)

least-one : (tsi tsr : List Ts) (meet : Meet) (k n : ℕ) → IsLeast tsi tsr meet k → IsLeast tsi tsr meet n → k ≡ n
least-one tsi tsr meet k n a b =
    let below : k ≤ n = a.least n b.above b.has in
    let above : n ≤ k = b.least k a.above a.has in
    omega arith

part-one : (tsi tsr : List Ts) (meet : Meet) (a b : AnyBox) → IsPart tsi tsr meet a → IsPart tsi tsr meet b → a ≡ b
part-one tsi tsr meet a b (is_whole can p) (is_whole can' q) = p ∙ sym q
part-one tsi tsr meet a b (is_whole can p) (is_least unwritten n least has) = absurd (false≢true (sym unwritten ∙ can))
part-one tsi tsr meet a b (is_least unwritten n least has) (is_whole can p) = absurd (false≢true (sym unwritten ∙ can))
part-one tsi tsr meet a b (is_least unwritten k least has) (is_least unwritten' n least' has') =
    box_laws.same a b (λ x.
    has x
    ∙ ap (λ (protocol : ℕ). is_point x && (box_has meet.region x && (x.protocol == protocol))) (least-one tsi tsr meet k n least least')
    ∙ sym (has' x))

-- The same meet gives one part.
meet-part : (tsi tsr : List Ts) (m n : Meet) (a b : AnyBox) → m ≡ n → IsPart tsi tsr m a → IsPart tsi tsr n b → a ≡ b
meet-part tsi tsr m n a b same p q = part-one tsi tsr m a b p (subst (λ (k : Meet). IsPart tsi tsr k b) (sym same) q)

-- ---- what is picked

by_first-one : (list : List Meet) (tsi tsr : List Ts) (place : ℕ) (a b : Picked) → IsByFirst list tsi tsr place a →
    IsByFirst list tsi tsr place b → a ≡ b
by_first-one list tsi tsr place a b (of_serving m f part p e) (of_serving n g part' q e') =
    let same = one-meet (Serves place (take 1 tsi) (take 1 tsr)) list m n f g in
    e ∙ ap (λ (r : AnyBox). all_cut tsi tsr r place) (meet-part (take 1 tsi) (take 1 tsr) m n part part' same p q) ∙ sym e'
by_first-one list tsi tsr place a b (of_serving m f part p e) (is_alone g e') =
    absurd (some-none (Serves place (take 1 tsi) (take 1 tsr)) list m f g)
by_first-one list tsi tsr place a b (is_alone g e) (of_serving m f part p e') =
    absurd (some-none (Serves place (take 1 tsi) (take 1 tsr)) list m f g)
by_first-one list tsi tsr place a b (is_alone f e) (is_alone g e') = e ∙ sym e'

cut-one : (tsi tsr : List Ts) (m n : Meet) (a b : AnyBox) → m ≡ n → a ≡ b → all_cut tsi tsr a m.link ≡ all_cut tsi tsr b n.link
cut-one tsi tsr m n a b same equal =
    ap (λ (r : AnyBox). all_cut tsi tsr r m.link) equal ∙ ap (λ (k : Meet). all_cut tsi tsr b k.link) same

by_meet-one : (list : List Meet) (tsi tsr : List Ts) (a b : Picked) → IsByMeet list tsi tsr a → IsByMeet list tsi tsr b → a ≡ b
by_meet-one list tsi tsr a b (of_first m f part p e) (of_first n g part' q e') =
    let same = one-meet (HasSayable (take 1 tsi) (take 1 tsr)) list m n f g in
    e ∙ cut-one tsi tsr m n part part' same (meet-part (take 1 tsi) (take 1 tsr) m n part part' same p q) ∙ sym e'
by_meet-one list tsi tsr a b (of_first m f part p e) (of_any none n g part' q e') =
    absurd (some-none (HasSayable (take 1 tsi) (take 1 tsr)) list m f none)
by_meet-one list tsi tsr a b (of_any none n g part' q e') (of_first m f part p e) =
    absurd (some-none (HasSayable (take 1 tsi) (take 1 tsr)) list m f none)
by_meet-one list tsi tsr a b (of_any none m f part p e) (of_any none' n g part' q e') =
    let same = one-meet (HasSayable tsi tsr) list m n f g in
    e ∙ cut-one tsi tsr m n part part' same (meet-part tsi tsr m n part part' same p q) ∙ sym e'

-- The proposal itself.
abbrev as_it_is : List Ts → List Ts → ℕ → Picked
as_it_is tsi tsr place = record { tsi = tsi; tsr = tsr; link = place }

picked-one : (lines : List LineParts) (list : List Meet) (tsi tsr : List Ts) (a b : Picked) → SomeAcceptable lines tsi tsr →
    IsPicked lines list tsi tsr a → IsPicked lines list tsi tsr b → a ≡ b
picked-one lines list tsi tsr a b some (by_all m all e) (by_all n all' e') =
    let real = allowed-real lines some.place some.point some.is_allowed in
    let same = allowed-one lines m n some.point (all some.point real some.is_covered) (all' some.point real some.is_covered) in
    e ∙ ap (λ (k : ℕ). as_it_is tsi tsr k) same ∙ sym e'
picked-one lines list tsi tsr a b some (by_all m all e) (by_first none first n all' p) = absurd (none m all)
picked-one lines list tsi tsr a b some (by_all m all e) (by_meet none unkept p) = absurd (none m all)
picked-one lines list tsi tsr a b some (by_first none first m all p) (by_all n all' e) = absurd (none n all')
picked-one lines list tsi tsr a b some (by_first none first m all p) (by_first none' first' n all' q) =
    let same =
    allowed-one lines m n first.point (all first.point first.real first.is_covered) (all' first.point first.real first.is_covered) in
    by_first-one list tsi tsr m a b p (subst (λ (k : ℕ). IsByFirst list tsi tsr k b) (sym same) q)
picked-one lines list tsi tsr a b some (by_first none first m all p) (by_meet none' unkept q) = absurd (unkept first m all)
picked-one lines list tsi tsr a b some (by_meet none unkept p) (by_all n all e) = absurd (none n all)
picked-one lines list tsi tsr a b some (by_meet none unkept p) (by_first none' first n all q) = absurd (unkept first n all)
picked-one lines list tsi tsr a b some (by_meet none unkept p) (by_meet none' unkept' q) = by_meet-one list tsi tsr a b p q

-- ---- the answer

pub one-answer : (lines : List LineParts) (list : List Meet) (tsi tsr : List Ts) (a b : Narrowed) → IsNarrowing lines list tsi tsr a →
    IsNarrowing lines list tsi tsr b → a ≡ b
one-answer lines list tsi tsr Unacceptable Unacceptable p q = refl
one-answer lines list tsi tsr Unacceptable (Pair s t link more) p q = absurd (p q.0)
one-answer lines list tsi tsr (Pair s t link more) Unacceptable p q = absurd (q p.0)
one-answer lines list tsi tsr (Pair s t link more) (Pair s' t' link' more') p q =
    let one : Picked = record { tsi = s; tsr = t; link = link } in
    let other : Picked = record { tsi = s'; tsr = t'; link = link' } in
    let same : one ≡ other = picked-one lines list tsi tsr one other p.0 p.1 q.1 in
    let Tells : Picked → Type 0 = λ k. IsTrue more' ↔ SomeLeft lines tsi tsr k.tsi k.tsr in
    let told : IsTrue more' ↔ SomeLeft lines tsi tsr s t = subst Tells (sym same) q.2 in
    let notice : more ≡ more' = same_test more more' (λ h. told.1 (p.2.0 h)) (λ h. p.2.1 (told.0 h)) in
    λ i. Pair (same i).tsi (same i).tsr (same i).link (notice i)
