-- Whether a real point is left of pieces, each cut by the regions that meet it alone.
use Rattle.std.proofs.Common.{◌≡◌, ℕ, ◌+◌, ◌<◌, Bool, true, false, ◌||◌, cond, List, [], ◌∷◌, ◌++◌, length, drop, get_or}
use Rattle.std.proofs.Common.{Option, Some, None, IsNone, is_some}
use Rattle.std.proofs.Common.{refl, sym, ap, ◌∙◌, arith}
use Rattle.std.specs.List.{list_any, sum_by}
use Rattle.std.proofs.lemmas.Option.{slice_get_read}
use Rattle.std.proofs.lemmas.List.{append-nil}
use Rattle.std.proofs.lemmas.List.Concat.{flat_map-append}
use Rattle.std.proofs.lemmas.List.Folds.{fold-map, list_any-append}
use Rattle.std.proofs.lemmas.List.Sums.{sum_by-append}
use Rattle.sel_region.specs.Cutting.{cut_all, cut_each}
use Rattle.sel_region.proofs.Regions.{meet_comm}
use Rattle.sel_box.specs.declared.any_box.AnyBox.{AnyBox}
use Rattle.sel_box.specs.BoxRegion.{box_meet, box_minus}
use Rattle.sel_box.specs.SomePoint.{has_real_point}
use Rattle.sel_box.specs.laws.BoxLaws.{box_laws}
use Rattle.sel_tree.specs.FirstMet.{IsFirstMet, NoneMet, meets}
use Rattle.ts_cover.specs.RealParts.{leaves}
use Rattle.ts_cover.proofs.Skipped.{skipped_all, skipped_to}
use Rattle.ts_narrow.specs.declared.leaving.Rest.{Rest}
use Rattle.ts_narrow.specs.inner.Rests.{is_left, looks, rests_at, some_left, work, work_of}

-- ---- piece by piece

cut_all-both : (some more others : List AnyBox) →
    cut_all box_minus (some ++ more) others ≡ cut_all box_minus some others ++ cut_all box_minus more others
cut_all-both some more [] = refl
cut_all-both some more (region ∷ others) =
    ap (λ (pieces : List AnyBox). cut_all box_minus pieces others) (flat_map-append (λ piece. box_minus piece region) some more)
    ∙ cut_all-both (cut_each box_minus some region) (cut_each box_minus more region) others

leaves-nothing : (others : List AnyBox) → leaves [] others ≡ false
unfolding leaves
leaves-nothing [] = refl
leaves-nothing (region ∷ others) = leaves-nothing others

-- Of some boxes a real point is left where it is of the first or of those behind it.
leaves-first : (piece : AnyBox) (pieces others : List AnyBox) →
    leaves (piece ∷ pieces) others ≡ (leaves (piece ∷ []) others || leaves pieces others)
unfolding leaves
leaves-first piece pieces others =
    ap (list_any has_real_point) (cut_all-both (piece ∷ []) pieces others)
    ∙ list_any-append has_real_point (cut_all box_minus (piece ∷ []) others) (cut_all box_minus pieces others)

pub some_left-of : (others : List AnyBox) (from : ℕ) (pieces : List AnyBox) →
    some_left others (rests_at from pieces) ≡ leaves pieces (drop from others)
some_left-of others from [] = sym (leaves-nothing (drop from others))
some_left-of others from (piece ∷ pieces) =
    ap (λ (later : Bool). leaves (piece ∷ []) (drop from others) || later) (some_left-of others from pieces)
    ∙ sym (leaves-first piece pieces (drop from others))

-- ---- one region more

apart_none : (piece region : AnyBox) → meets piece region ≡ false → IsNone (box_meet piece region)
apart_none piece region apart =
    go (box_meet piece region) (ap (λ (common : Option AnyBox). is_some common) (meet_comm box_laws piece region) ∙ apart)
  where
    go : (common : Option AnyBox) → is_some common ≡ false → IsNone common
    go None none = refl
    go (Some region) none = cc

leaves-apart : (piece region : AnyBox) (others : List AnyBox) → meets piece region ≡ false →
    leaves (piece ∷ []) (region ∷ others) ≡ leaves (piece ∷ []) others
unfolding leaves
leaves-apart piece region others apart =
    ap (λ (pieces : List AnyBox). list_any has_real_point (cut_all box_minus (pieces ++ []) others))
    (box_laws.minus_alone piece region (apart_none piece region apart))

leaves-cut : (piece region : AnyBox) (others : List AnyBox) → leaves (piece ∷ []) (region ∷ others) ≡ leaves (box_minus piece region) others
unfolding leaves
leaves-cut piece region others =
    ap (λ (pieces : List AnyBox). list_any has_real_point (cut_all box_minus pieces others)) (append-nil (box_minus piece region))

leaves-uncut : (piece : AnyBox) → leaves (piece ∷ []) [] ≡ has_real_point piece
unfolding leaves
leaves-uncut piece = go (has_real_point piece)
  where
    go : (real : Bool) → (real || false) ≡ real
    go true = refl
    go false = refl

looks-apart : (piece region : AnyBox) (others : List AnyBox) → meets piece region ≡ false →
    looks (region ∷ others) piece ≡ looks others piece
unfolding looks
looks-apart piece region others apart =
    ap (λ (met : Bool). cond met (1 + sum_by (looks others) (box_minus piece region)) (looks others piece)) apart

looks-cut : (piece region : AnyBox) (others : List AnyBox) → meets piece region ≡ true →
    looks (region ∷ others) piece ≡ 1 + sum_by (looks others) (box_minus piece region)
unfolding looks
looks-cut piece region others met =
    ap (λ (met : Bool). cond met (1 + sum_by (looks others) (box_minus piece region)) (looks others piece)) met

looks-uncut : (piece : AnyBox) → looks [] piece ≡ 1
unfolding looks
looks-uncut piece = refl

-- ---- the next region that meets a piece

module _ (others : List AnyBox) (piece region : AnyBox) (from index : ℕ) (first : IsFirstMet from piece others index)
    (is : region ≡ get_or others index region)
  where
    is_left-cut : is_left others (record { piece = piece; from = from }) ≡ some_left others (rests_at (index + 1) (box_minus piece region))
    is_left-cut =
        skipped_to (leaves (piece ∷ [])) (λ (r : AnyBox). meets piece r ≡ false) (λ r left. leaves-apart piece r left)
        others from index region first.after first.within is first.none_before
        ∙ leaves-cut piece region (drop (index + 1) others)
        ∙ sym (some_left-of others (index + 1) (box_minus piece region))

    work-cut : work_of others (record { piece = piece; from = from }) ≡ 1 + work others (rests_at (index + 1) (box_minus piece region))
    work-cut =
        skipped_to (λ (left : List AnyBox). looks left piece) (λ (r : AnyBox). meets piece r ≡ false) (λ r left. looks-apart piece r left)
        others from index region first.after first.within is first.none_before
        ∙ looks-cut piece region (drop (index + 1) others)
        (first.met region (slice_get_read others (length others) index region refl first.within is))
        ∙ ap (λ (n : ℕ). 1 + n)
        (sym (fold-map (λ (sum : ℕ) (rest : Rest). sum + work_of others rest)
        (λ (part : AnyBox). record { piece = part; from = index + 1 }) 0 (box_minus piece region)))

module _ (others : List AnyBox) (piece : AnyBox) (from : ℕ) (none : NoneMet from (length others) piece others) where
  is_left-uncut : is_left others (record { piece = piece; from = from }) ≡ has_real_point piece
  is_left-uncut =
      skipped_all (leaves (piece ∷ [])) (λ (r : AnyBox). meets piece r ≡ false) (λ r left. leaves-apart piece r left) others from none
      ∙ leaves-uncut piece

  work-uncut : work_of others (record { piece = piece; from = from }) ≡ 1
  work-uncut =
      skipped_all (λ (left : List AnyBox). looks left piece) (λ (r : AnyBox). meets piece r ≡ false) (λ r left. looks-apart piece r left)
      others from none
      ∙ looks-uncut piece

-- ---- the pieces that wait

or_turned : (a b : Bool) → (a || b) ≡ (b || a)
or_turned true true = refl
or_turned true false = refl
or_turned false true = refl
or_turned false false = refl

or_last : (a b : Bool) → (a || (b || false)) ≡ (b || a)
or_last true true = refl
or_last true false = refl
or_last false true = refl
or_last false false = refl

-- What a cut leaves of a piece waits in its place,
pub some_left-cut : (others : List AnyBox) (rests : List Rest) (rest : Rest) (region : AnyBox) (index : ℕ) →
    IsFirstMet rest.from rest.piece others index → region ≡ get_or others index region →
    some_left others (rests ++ rests_at (index + 1) (box_minus rest.piece region)) ≡ (is_left others rest || some_left others rests)
some_left-cut others rests rest region index first is =
    list_any-append (is_left others) rests (rests_at (index + 1) (box_minus rest.piece region))
    ∙ or_turned (some_left others rests) (some_left others (rests_at (index + 1) (box_minus rest.piece region)))
    ∙ ap (λ (here : Bool). here || some_left others rests) (sym (is_left-cut others rest.piece region rest.from index first is))

pub work-less : (others : List AnyBox) (rests : List Rest) (rest : Rest) (region : AnyBox) (index : ℕ) →
    IsFirstMet rest.from rest.piece others index → region ≡ get_or others index region →
    work others (rests ++ rests_at (index + 1) (box_minus rest.piece region)) < work_of others rest + work others rests
work-less others rests rest region index first is =
    let sum = sum_by-append (work_of others) rests (rests_at (index + 1) (box_minus rest.piece region)) in
    let one = work-cut others rest.piece region rest.from index first is in
    omega (arith, sum, one)

-- and a piece that no region meets waits no more.
pub some_left-uncut : (others : List AnyBox) (rests : List Rest) (rest : Rest) (left : Bool) →
    NoneMet rest.from (length others) rest.piece others →
    left ≡ has_real_point rest.piece → (left || some_left others rests) ≡ (is_left others rest || some_left others rests)
some_left-uncut others rests rest left none is =
    ap (λ (here : Bool). here || some_left others rests) (is ∙ sym (is_left-uncut others rest.piece rest.from none))

pub work-ends : (others : List AnyBox) (rests : List Rest) (rest : Rest) → NoneMet rest.from (length others) rest.piece others →
    work others rests < work_of others rest + work others rests
work-ends others rests rest none =
    let one = work-uncut others rest.piece rest.from none in
    omega (arith, one)

-- The piece that is taken next is the last.
some_left-last : (others : List AnyBox) (all rests : List Rest) (rest : Rest) → all ≡ rests ++ rest ∷ [] →
    some_left others all ≡ (is_left others rest || some_left others rests)
some_left-last others all rests rest is =
    ap (some_left others) is ∙ list_any-append (is_left others) rests (rest ∷ []) ∙ or_last (some_left others rests) (is_left others rest)

-- So it is with what waits behind it.
pub some_left-taken : (others : List AnyBox) (all rests now : List Rest) (rest : Rest) (left whole : Bool) → all ≡ rests ++ rest ∷ [] →
    (left || some_left others now) ≡ (is_left others rest || some_left others rests) → some_left others all ≡ whole →
    (left || some_left others now) ≡ whole
some_left-taken others all rests now rest left whole is taken before =
    taken ∙ sym (some_left-last others all rests rest is) ∙ before

pub some_left-none : (others : List AnyBox) (rests : List Rest) (whole : Bool) → rests ≡ [] → some_left others rests ≡ whole → false ≡ whole
some_left-none others rests whole none before = sym (ap (some_left others) none) ∙ before

pub work-last : (others : List AnyBox) (all rests : List Rest) (rest : Rest) → all ≡ rests ++ rest ∷ [] →
    work others all ≡ work_of others rest + work others rests
work-last others all rests rest is =
    ap (work others) is
    ∙ sum_by-append (work_of others) rests (rest ∷ [])
    ∙ omega arith
