-- The entries that are passed over have no gap.
use Rattle.std.proofs.Common.{◌≡◌, ℕ, zero, suc, ◌+◌, ◌-◌, ◌<◌, ◌≤◌, Bool, true, false, not, ◌||◌, ◌⊎◌, inl, inr, cond, List, [], ◌∷◌, ◌++◌, drop, get_or, length}
use Rattle.std.proofs.Common.{Option, Some, None, is_some, option_map, refl, sym, ap, ◌∙◌, subst, arith}
use Rattle.std.specs.Option.{option_and_then, option_to_list}
use Rattle.std.proofs.Math.Nat.{le_refl}
use Rattle.std.proofs.lemmas.Bool.{and_from, and_parts, cases_lt, not_from_false, or_left, or_right}
use Rattle.std.proofs.lemmas.List.{append-nil, drop_all, length-map}
use Rattle.std.proofs.lemmas.Option.{get_or_from_slice_get, slice_get-get_or, slice_get-map, slice_get_read}
use Rattle.std.specs.Prelude.{slice_get}
use Rattle.sel_region.proofs.Loops.{drop_item, flat_map_next}
use Rattle.sel_region.proofs.Regions.{meet_comm}
use Rattle.sel_box.specs.declared.any_box.AnyBox.{AnyBox}
use Rattle.sel_box.specs.declared.packet.Direction.TheVariants.{Outbound, Inbound}
use Rattle.sel_box.specs.BoxRegion.{box_meet}
use Rattle.sel_box.specs.Packet.{is_packet}
use Rattle.sel_box.specs.Point.{view_of}
use Rattle.sel_box.specs.Swap.{box_swapped}
use Rattle.sel_box.specs.laws.BoxLaws.{box_laws}
use Rattle.sel_tree.specs.FirstMet.{IsFirstMet, NoneMet}
use Rattle.spd_cut.specs.declared.entry.Entry.{Entry}
use Rattle.spd_cut.specs.Entries.{entry_has}
use Rattle.spd_line.specs.Agree.{same_judgement}
use Rattle.spd_line.specs.declared.judgement.Judgement.{Judgement}
use Rattle.pair_gap.specs.declared.gap.Gap.{Gap}
use Rattle.pair_gap.specs.GapRegions.{gap_region, regions_with, with_packet}
use Rattle.pair_gap.specs.LeastGap.{common_region, gap_at, gap_of, least_with, lesser}
use Rattle.pair_gap.specs.LeastPacketOf.{least_packet_of}
use Rattle.pair_gap.specs.inner.Peer.{ArePassed, HasNoLesser, IsKeptOf, IsNoLesser, IsRun, cannot_differ, mirrored}
use Rattle.pair_gap.proofs.LeastGaps.{LeastOf, both_have, gap_of-least, pair_differs}

-- A pair that can't differ has no gap and no region.

gap_of-passed : (ours theirs : Entry) → cannot_differ ours theirs ≡ true → gap_of ours theirs ≡ None
gap_of-passed ours theirs passed = go (same_judgement ours.judgement theirs.judgement) (common_region ours theirs) passed
  where
    go : (same : Bool) (common : Option AnyBox) → (same || not (is_some common)) ≡ true →
        cond same None (option_map (gap_at ours theirs) (option_and_then least_packet_of common)) ≡ None
    go true common e = refl
    go false None e = refl
    go false (Some region) e = absurd (let none : ⊥ = cc in none)

gap_region-passed : (ours theirs : Entry) → cannot_differ ours theirs ≡ true → gap_region ours theirs ≡ None
gap_region-passed ours theirs passed = go (same_judgement ours.judgement theirs.judgement) (common_region ours theirs) passed
  where
    go : (same : Bool) (common : Option AnyBox) → (same || not (is_some common)) ≡ true → cond same None (with_packet common) ≡ None
    go true common e = refl
    go false None e = refl
    go false (Some region) e = absurd (let none : ⊥ = cc in none)

lesser-none : (best : Option Gap) → lesser best None ≡ best
lesser-none None = refl
lesser-none (Some best) = refl

with_passed : (best : Option Gap) (ours theirs : Entry) (rest : List Entry) → cannot_differ ours theirs ≡ true →
    least_with best ours (theirs ∷ rest) ≡ least_with best ours rest
with_passed best ours theirs rest passed =
    ap (λ (found : Option Gap). least_with (lesser best found) ours rest) (gap_of-passed ours theirs passed)
    ∙ ap (λ (b : Option Gap). least_with b ours rest) (lesser-none best)

regions_passed : (ours theirs : Entry) (rest : List Entry) → cannot_differ ours theirs ≡ true →
    regions_with ours (theirs ∷ rest) ≡ regions_with ours rest
regions_passed ours theirs rest passed =
    ap (λ (found : Option AnyBox). option_to_list found ++ regions_with ours rest) (gap_region-passed ours theirs passed)

drop-nil : {X : Type 0} (n : ℕ) → ◌≡◌ {A = List X} (drop n []) []
drop-nil zero = refl
drop-nil (suc n) = refl

-- What is made of a list stays the same without the entries that are passed over.
skipped : {Y : Type 0} (F : List Entry → Y) (ours : Entry) →
    ((theirs : Entry) (rest : List Entry) → cannot_differ ours theirs ≡ true → F (theirs ∷ rest) ≡ F rest) →
    (inbound : List Entry) (from past : ℕ) → from ≤ past → ArePassed ours inbound from past → F (drop from inbound) ≡ F (drop past inbound)
skipped F ours step [] from past le passed = ap F (drop-nil from ∙ sym (drop-nil past))
skipped F ours step (theirs ∷ rest) zero zero le passed = refl
skipped F ours step (theirs ∷ rest) zero (suc past) le passed =
    step theirs rest (passed 0 theirs (omega arith) (omega arith) refl)
    ∙ skipped F ours step rest zero past (omega arith) (λ j entry low high is. passed (suc j) entry (omega arith) (omega arith) is)
skipped F ours step (theirs ∷ rest) (suc from) zero le passed = absurd (omega arith)
skipped F ours step (theirs ∷ rest) (suc from) (suc past) le passed =
    skipped F ours step rest from past (omega arith) (λ j entry low high is. passed (suc j) entry (omega arith) (omega arith) is)

pub with_skipped : (best : Option Gap) (ours : Entry) (inbound : List Entry) (from past : ℕ) → from ≤ past → ArePassed ours inbound from past →
    least_with best ours (drop from inbound) ≡ least_with best ours (drop past inbound)
with_skipped best ours = skipped (λ rest. least_with best ours rest) ours (with_passed best ours)

pub regions_skipped : (ours : Entry) (inbound : List Entry) (from past : ℕ) → from ≤ past → ArePassed ours inbound from past →
    regions_with ours (drop from inbound) ≡ regions_with ours (drop past inbound)
regions_skipped ours = skipped (λ rest. regions_with ours rest) ours (regions_passed ours)

-- The next pair, behind those that are passed over.
pub with_next : (best : Option Gap) (ours : Entry) (inbound : List Entry) (from index : ℕ) (theirs : Entry) → from ≤ index →
    ArePassed ours inbound from index → index < length inbound → theirs ≡ get_or inbound index theirs →
    least_with (lesser best (gap_of ours theirs)) ours (drop (index + 1) inbound) ≡ least_with best ours (drop from inbound)
with_next best ours inbound from index theirs le passed within is =
    sym (drop_item (λ rest. least_with best ours rest) inbound index theirs within is) ∙ sym (with_skipped best ours inbound from index le passed)

pub regions_next : (made : List AnyBox) (ours : Entry) (inbound : List Entry) (from index : ℕ) (theirs : Entry) → from ≤ index →
    ArePassed ours inbound from index → index < length inbound → theirs ≡ get_or inbound index theirs →
    (made ++ option_to_list (gap_region ours theirs)) ++ regions_with ours (drop (index + 1) inbound) ≡ made ++ regions_with ours (drop from inbound)
regions_next made ours inbound from index theirs le passed within is =
    flat_map_next (λ entry. option_to_list (gap_region ours entry)) made inbound index theirs within is
    ∙ ap (λ (rest : List AnyBox). made ++ rest) (sym (regions_skipped ours inbound from index le passed))

-- All that are left are passed over.
pub with_end : (best : Option Gap) (ours : Entry) (inbound : List Entry) (from : ℕ) → ArePassed ours inbound from (length inbound) →
    best ≡ least_with best ours (drop from inbound)
with_end best ours inbound from passed = go (cases_lt from (length inbound))
  where
    none_left : (n : ℕ) → length inbound ≤ n → best ≡ least_with best ours (drop n inbound)
    none_left n past = ap (λ rest. least_with best ours rest) (sym (drop_all n inbound past))

    go : (from < length inbound) ⊎ (length inbound ≤ from) → best ≡ least_with best ours (drop from inbound)
    go (inl below) =
        none_left (length inbound) (le_refl (length inbound)) ∙ sym (with_skipped best ours inbound from (length inbound) (omega arith) passed)
    go (inr past) = none_left from past

pub regions_end : (made : List AnyBox) (ours : Entry) (inbound : List Entry) (from : ℕ) → ArePassed ours inbound from (length inbound) →
    made ≡ made ++ regions_with ours (drop from inbound)
regions_end made ours inbound from passed = sym (append-nil made) ∙ ap (λ (rest : List AnyBox). made ++ rest) (go (cases_lt from (length inbound)))
  where
    none_left : (n : ℕ) → length inbound ≤ n → [] ≡ regions_with ours (drop n inbound)
    none_left n past = ap (λ rest. regions_with ours rest) (sym (drop_all n inbound past))

    go : (from < length inbound) ⊎ (length inbound ≤ from) → [] ≡ regions_with ours (drop from inbound)
    go (inl below) =
        none_left (length inbound) (le_refl (length inbound)) ∙ sym (regions_skipped ours inbound from (length inbound) (omega arith) passed)
    go (inr past) = none_left from past

-- An entry that has no packet before that of the gap leaves it the least.

lesser-kept : (best : Option Gap) (gap : Gap) → IsNoLesser best gap.packet → lesser best (Some gap) ≡ best
lesser-kept None gap none = absurd none
lesser-kept (Some best) gap first = ap (λ (b : Bool). Some (cond b best gap)) first

gap_of-kept : (best : Option Gap) (ours theirs : Entry) → HasNoLesser best ours → lesser best (gap_of ours theirs) ≡ best
gap_of-kept best ours theirs none = go (gap_of ours theirs) (gap_of-least ours theirs)
  where
    go : (found : Option Gap) → LeastOf (pair_differs ours theirs) found → lesser best found ≡ best
    go None least = lesser-none best
    go (Some gap) least =
        let both = and_parts (is_packet gap.packet) _
        (and_parts (not (same_judgement ours.judgement theirs.judgement)) (both_have ours theirs gap.packet) least.0).1 in
        let have = and_parts (entry_has ours (view_of Outbound gap.packet)) (entry_has theirs (view_of Inbound gap.packet)) both.1 in
        lesser-kept best gap (none gap.packet (and_from _ _ both.0 have.0))

pub with_kept : (best : Option Gap) (ours : Entry) (inbound : List Entry) → HasNoLesser best ours → best ≡ least_with best ours inbound
with_kept best ours [] none = refl
with_kept best ours (theirs ∷ rest) none =
    with_kept best ours rest none ∙ ap (λ (b : Option Gap). least_with b ours rest) (sym (gap_of-kept best ours theirs none))

-- Why entries are passed over: they don't meet the other, or they are judged as it is.

ArePassed-unmet : (ours : Entry) (inbound : List Entry) (from end : ℕ) → NoneMet from end ours.region (mirrored inbound) →
    ArePassed ours inbound from end
ArePassed-unmet ours inbound from end none j theirs low high is =
    let at : slice_get (mirrored inbound) j ≡ Some (box_swapped theirs.region) =
    slice_get-map (λ (entry : Entry). box_swapped entry.region) inbound j
    ∙ ap (option_map (λ (entry : Entry). box_swapped entry.region)) is in
    let here : get_or (mirrored inbound) j (box_swapped theirs.region) ≡ box_swapped theirs.region =
    get_or_from_slice_get (mirrored inbound) j (box_swapped theirs.region) (box_swapped theirs.region) at in
    let apart : is_some (box_meet (box_swapped theirs.region) ours.region) ≡ false =
    subst (λ (r : AnyBox). is_some (box_meet r ours.region) ≡ false) here (none j (box_swapped theirs.region) low high) in
    or_right (same_judgement ours.judgement theirs.judgement) _
    (not_from_false _ (ap (λ (met : Option AnyBox). is_some met) (meet_comm box_laws ours.region (box_swapped theirs.region)) ∙ apart))

ArePassed-alike : (ours found : Entry) (inbound : List Entry) (index past : ℕ) → IsRun inbound index past → index < length inbound →
    found ≡ get_or inbound index found → same_judgement ours.judgement found.judgement ≡ true → ArePassed ours inbound index past
ArePassed-alike ours found inbound index past run within is same j theirs low high at =
    let first = slice_get_read inbound (length inbound) index found refl within is in
    let alike : theirs.judgement ≡ found.judgement = run.alike j found theirs low high first at in
    or_left _ (not (is_some (common_region ours theirs)))
    (subst (λ (k : Judgement). same_judgement ours.judgement k ≡ true) (sym alike) same)

ArePassed-then : (ours : Entry) (inbound : List Entry) (from middle end : ℕ) → ArePassed ours inbound from middle →
    ArePassed ours inbound middle end → ArePassed ours inbound from end
ArePassed-then ours inbound from middle end before behind j theirs low high is = go (cases_lt j middle)
  where
    go : (j < middle) ⊎ (middle ≤ j) → cannot_differ ours theirs ≡ true
    go (inl below) = before j theirs low below is
    go (inr above) = behind j theirs above high is

-- One step of the search: the next that is met, the end of its run, and that none is met.

pub passed_to_met : (ours : Entry) (inbound : List Entry) (regions : List AnyBox) (ends : List ℕ) (from first index : ℕ) →
    IsKeptOf inbound regions ends → ArePassed ours inbound from first → IsFirstMet first ours.region regions index → ArePassed ours inbound from index
passed_to_met ours inbound regions ends from first index kept passed found =
    ArePassed-then ours inbound from first index passed
    (ArePassed-unmet ours inbound first index (subst (λ (rs : List AnyBox). NoneMet first index ours.region rs) kept.regions_are found.none_before))

pub passed_to_end : (ours : Entry) (inbound : List Entry) (regions : List AnyBox) (ends : List ℕ) (from first : ℕ) →
    IsKeptOf inbound regions ends → ArePassed ours inbound from first → NoneMet first (length regions) ours.region regions →
    ArePassed ours inbound from (length inbound)
passed_to_end ours inbound regions ends from first kept passed none =
    let all : length regions ≡ length inbound = ap (λ (rs : List AnyBox). length rs) kept.regions_are
    ∙ length-map inbound (λ (entry : Entry). box_swapped entry.region) in
    ArePassed-then ours inbound from first (length inbound) passed
    (ArePassed-unmet ours inbound first (length inbound)
    (subst (λ (n : ℕ). NoneMet first n ours.region (mirrored inbound)) all
    (subst (λ (rs : List AnyBox). NoneMet first (length regions) ours.region rs) kept.regions_are none)))

pub within_kept : (inbound : List Entry) (regions : List AnyBox) (ends : List ℕ) (index : ℕ) → IsKeptOf inbound regions ends →
    index < length regions → index < length inbound
within_kept inbound regions ends index kept within =
    let all : length regions ≡ length inbound = ap (λ (rs : List AnyBox). length rs) kept.regions_are
    ∙ length-map inbound (λ (entry : Entry). box_swapped entry.region) in
    omega arith

-- The run of the entry that is met.
pub run_of_met : (inbound : List Entry) (regions : List AnyBox) (ends : List ℕ) (index : ℕ) → IsKeptOf inbound regions ends →
    index < length inbound → IsRun inbound index (get_or ends index 0)
run_of_met inbound regions ends index kept within =
    kept.runs.each index (get_or ends index 0)
    (slice_get-get_or ends index 0 (let all : length ends ≡ length inbound = kept.runs.all in omega arith))

pub passed_to_run : (ours found : Entry) (inbound : List Entry) (regions : List AnyBox) (ends : List ℕ) (from first index : ℕ) →
    IsKeptOf inbound regions ends → ArePassed ours inbound from first → IsFirstMet first ours.region regions index →
    found ≡ get_or inbound index found → same_judgement ours.judgement found.judgement ≡ true →
    ArePassed ours inbound from (get_or ends index 0)
passed_to_run ours found inbound regions ends from first index kept passed met is same =
    let within : index < length inbound = within_kept inbound regions ends index kept met.within in
    ArePassed-then ours inbound from index (get_or ends index 0) (passed_to_met ours inbound regions ends from first index kept passed met)
    (ArePassed-alike ours found inbound index (get_or ends index 0) (run_of_met inbound regions ends index kept within) within is same)

-- Less is left behind a run.
pub behind_run : (ours : Entry) (inbound : List Entry) (regions : List AnyBox) (ends : List ℕ) (first index : ℕ) →
    IsKeptOf inbound regions ends → IsFirstMet first ours.region regions index →
    (first ≤ get_or ends index 0) × (length inbound - get_or ends index 0 < length inbound - first)
behind_run ours inbound regions ends first index kept met =
    let within : index < length inbound = within_kept inbound regions ends index kept met.within in
    let behind : index < get_or ends index 0 = (run_of_met inbound regions ends index kept within).behind in
    let after : first ≤ index = met.after in
    (omega arith, omega arith)
