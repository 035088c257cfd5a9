-- A step, and the end, of a loop over entries, of which those are passed over that have no meet.
use Rattle.std.proofs.Common.{◌≡◌, ℕ, ◌+◌, ◌<◌, ◌≤◌, ◌≢◌, List, [], ◌∷◌, ◌++◌, length, drop, get_or, Bool, true, false, ◌==◌, ◌&&◌, cond}
use Rattle.std.proofs.Common.{Option, Some, None, is_some, option_map}
use Rattle.std.proofs.Common.{refl, sym, subst, ap, ◌∙◌, append_assoc, arith}
use Rattle.std.specs.Prelude.{IfSome}
use Rattle.std.specs.List.{AllWithin, find}
use Rattle.std.specs.Option.{option_or, option_to_list}
use Rattle.std.proofs.lemmas.Bool.{ne_eqb}
use Rattle.std.proofs.lemmas.List.{append-nil, get_or-map, length-map}
use Rattle.std.proofs.lemmas.List.Concat.{flat_map-append}
use Rattle.std.proofs.lemmas.List.Folds.{find-append}
use Rattle.sel_region.proofs.Loops.{drop_item}
use Rattle.sel_region.proofs.Regions.{meet_comm}
use Rattle.sel_box.specs.declared.any_box.AnyBox.{AnyBox}
use Rattle.sel_box.specs.BoxRegion.{box_meet}
use Rattle.sel_box.specs.laws.BoxLaws.{box_laws}
use Rattle.sel_tree.specs.FirstMet.{IsFirstMet, NoneMet}
use Rattle.sel_tree.specs.FirstMet as boxes
use Rattle.spd_cut.specs.declared.entry.Entry.{Entry}
use Rattle.ts_cover.proofs.Skipped.{skipped_all, skipped_to}
use Rattle.ts_narrow.specs.declared.meets.Meet.{Meet}
use Rattle.ts_narrow.specs.Allowed.{is_protect}
use Rattle.ts_narrow.specs.Meets.{meet_of, meets, meets_with, region_of, regions_of}
use Rattle.ts_narrow.specs.inner.Listed.{regions_in}

-- ---- entries that have no meet

-- The meet of a line that has these points.
abbrev at_link : ℕ → AnyBox → Meet
at_link link region = record { region = region; link = link }

-- Two that have no point in common have none.
meet_of-apart : (e f : Entry) → boxes.meets e.region f.region ≡ false → meet_of e f ≡ None
meet_of-apart e f apart =
    go ((e.link == f.link) && (is_protect e.judgement && is_protect f.judgement)) (box_meet e.region f.region)
    (ap (λ (common : Option AnyBox). is_some common) (meet_comm box_laws e.region f.region) ∙ apart)
  where
    go : (alike : Bool) (common : Option AnyBox) → is_some common ≡ false →
        ◌≡◌ {A = Option Meet} (cond alike (option_map (at_link e.link) common) None) None
    go true None none = refl
    go true (Some region) none = cc
    go false common none = refl

-- One that doesn't protect has none with any.
meet_of-unprotected : (e f : Entry) → is_protect e.judgement ≡ false → meet_of e f ≡ None
meet_of-unprotected e f unprotected =
    go (e.link == f.link) (is_protect e.judgement) (is_protect f.judgement) (option_map (at_link e.link) (box_meet e.region f.region))
    unprotected
  where
    go : (linked ours theirs : Bool) (met : Option Meet) → ours ≡ false → cond (linked && (ours && theirs)) met None ≡ None
    go true true theirs met unmet = cc
    go true false theirs met unmet = refl
    go false ours theirs met unmet = refl

pub meets_with-unprotected : (e : Entry) (inbound : List Entry) → is_protect e.judgement ≡ false → meets_with e inbound ≡ []
meets_with-unprotected e [] unprotected = refl
meets_with-unprotected e (f ∷ inbound) unprotected =
    ap (λ (met : Option Meet). option_to_list met ++ meets_with e inbound) (meet_of-unprotected e f unprotected)
    ∙ meets_with-unprotected e inbound unprotected

meets_with-apart : (e f : Entry) (inbound : List Entry) → boxes.meets e.region f.region ≡ false →
    meets_with e (f ∷ inbound) ≡ meets_with e inbound
meets_with-apart e f inbound apart = ap (λ (met : Option Meet). option_to_list met ++ meets_with e inbound) (meet_of-apart e f apart)

-- ---- from an index on

apart-within : (e : Entry) (inbound : List Entry) (from end : ℕ) → end ≤ length inbound → NoneMet from end e.region (regions_in inbound) →
    AllWithin (λ (f : Entry). boxes.meets e.region f.region ≡ false) inbound from end
apart-within e inbound from end fits none k f low high =
    let below : k < length inbound = omega arith in
    subst (λ (r : AnyBox). boxes.meets e.region r ≡ false)
    (get_or-map (λ (entry : Entry). entry.region) inbound k f f.region below)
    (none k f.region low high)

-- The next entry that is met gives the next meet,
pub meets_with-next : (e f : Entry) (inbound : List Entry) (from index : ℕ) → IsFirstMet from e.region (regions_in inbound) index →
    f ≡ get_or inbound index f →
    meets_with e (drop from inbound) ≡ option_to_list (meet_of e f) ++ meets_with e (drop (index + 1) inbound)
meets_with-next e f inbound from index first is =
    let all = length-map inbound (λ (entry : Entry). entry.region) in
    let within : index < length inbound = omega (arith, first.within, all) in
    skipped_to (meets_with e) (λ (f : Entry). boxes.meets e.region f.region ≡ false) (λ f left. meets_with-apart e f left)
    inbound from index f first.after within is (apart-within e inbound from index (omega arith) first.none_before)

-- and where none is met, there is no more.
pub meets_with-end : (e : Entry) (inbound : List Entry) (from : ℕ) →
    NoneMet from (length (regions_in inbound)) e.region (regions_in inbound) →
    meets_with e (drop from inbound) ≡ []
meets_with-end e inbound from none =
    let all = length-map inbound (λ (entry : Entry). entry.region) in
    skipped_all (meets_with e) (λ (f : Entry). boxes.meets e.region f.region ≡ false) (λ f left. meets_with-apart e f left)
    inbound from (apart-within e inbound from (length inbound) (omega arith)
    (subst (λ (n : ℕ). NoneMet from n e.region (regions_in inbound)) all none))

-- ---- the regions of a line

regions_of-append : (link : ℕ) (first second : List Meet) →
    regions_of link (first ++ second) ≡ regions_of link first ++ regions_of link second
unfolding regions_of
regions_of-append link first second = flat_map-append (region_of link) first second

module _ (link : ℕ) where
  regions_of-other : (e : Entry) (inbound : List Entry) → (e.link == link) ≡ false → regions_of link (meets_with e inbound) ≡ []
  unfolding regions_of
  regions_of-other e [] other = refl
  regions_of-other e (f ∷ inbound) other =
      regions_of-append link (option_to_list (meet_of e f)) (meets_with e inbound)
      ∙ ap (λ (rest : List AnyBox). regions_of link (option_to_list (meet_of e f)) ++ rest) (regions_of-other e inbound other)
      ∙ append-nil (regions_of link (option_to_list (meet_of e f)))
      ∙ go ((e.link == f.link) && (is_protect e.judgement && is_protect f.judgement)) (box_meet e.region f.region)
    where
      go : (alike : Bool) (common : Option AnyBox) →
          regions_of link (option_to_list (cond alike (option_map (at_link e.link) common) None)) ≡ []
      go true None = refl
      go true (Some region) = ap (λ (same : Bool). cond same (region ∷ []) [] ++ []) other
      go false common = refl

  pub put-next_with : (made : List AnyBox) (e f : Entry) (inbound : List Entry) (from index : ℕ) →
      IsFirstMet from e.region (regions_in inbound) index →
      f ≡ get_or inbound index f →
      (made ++ regions_of link (option_to_list (meet_of e f))) ++ regions_of link (meets_with e (drop (index + 1) inbound))
      ≡ made ++ regions_of link (meets_with e (drop from inbound))
  put-next_with made e f inbound from index first is =
      let here = regions_of link (option_to_list (meet_of e f)) in
      let later = regions_of link (meets_with e (drop (index + 1) inbound)) in
      append_assoc made here later
      ∙ ap (λ (left : List AnyBox). made ++ left)
      (sym (ap (regions_of link) (meets_with-next e f inbound from index first is)
      ∙ regions_of-append link (option_to_list (meet_of e f)) (meets_with e (drop (index + 1) inbound))))

  -- An entry of another line gives none.
  pub put-other : (made : List AnyBox) (e : Entry) (inbound : List Entry) → e.link ≢ link →
      made ≡ made ++ regions_of link (meets_with e inbound)
  put-other made e inbound other =
      sym (append-nil made) ∙ ap (λ (left : List AnyBox). made ++ left) (sym (regions_of-other e inbound (ne_eqb e.link link other)))

  pub put-end_with : (made : List AnyBox) (e : Entry) (inbound : List Entry) (from : ℕ) →
      NoneMet from (length (regions_in inbound)) e.region (regions_in inbound) →
      made ≡ made ++ regions_of link (meets_with e (drop from inbound))
  unfolding regions_of
  put-end_with made e inbound from none =
      sym (append-nil made) ∙ ap (λ (left : List Meet). made ++ regions_of link left) (sym (meets_with-end e inbound from none))

  pub put-next : (made : List AnyBox) (outbound inbound : List Entry) (i : ℕ) (e : Entry) → i < length outbound → e ≡ get_or outbound i e →
      (made ++ regions_of link (meets_with e inbound)) ++ regions_of link (meets (drop (i + 1) outbound) inbound)
      ≡ made ++ regions_of link (meets (drop i outbound) inbound)
  unfolding meets
  put-next made outbound inbound i e below is =
      append_assoc made (regions_of link (meets_with e inbound)) (regions_of link (meets (drop (i + 1) outbound) inbound))
      ∙ ap (λ (left : List AnyBox). made ++ left)
      (sym (drop_item (λ (rest : List Entry). regions_of link (meets rest inbound)) outbound i e below is
      ∙ regions_of-append link (meets_with e inbound) (meets (drop (i + 1) outbound) inbound)))

-- ---- finding

pub find_next : (p : Meet → Bool) (outbound inbound : List Entry) (i : ℕ) (e : Entry) → i < length outbound → e ≡ get_or outbound i e →
    find p (meets (drop i outbound) inbound) ≡ option_or (find p (meets_with e inbound)) (find p (meets (drop (i + 1) outbound) inbound))
unfolding meets
find_next p outbound inbound i e below is =
    drop_item (λ (rest : List Entry). find p (meets rest inbound)) outbound i e below is
    ∙ find-append p (meets_with e inbound) (meets (drop (i + 1) outbound) inbound)

pub find_next_with : (p : Meet → Bool) (e f : Entry) (inbound : List Entry) (from index : ℕ) →
    IsFirstMet from e.region (regions_in inbound) index →
    f ≡ get_or inbound index f →
    find p (meets_with e (drop from inbound))
    ≡ option_or (find p (option_to_list (meet_of e f))) (find p (meets_with e (drop (index + 1) inbound)))
find_next_with p e f inbound from index first is =
    ap (find p) (meets_with-next e f inbound from index first is)
    ∙ find-append p (option_to_list (meet_of e f)) (meets_with e (drop (index + 1) inbound))

pub find_end_with : (p : Meet → Bool) (e : Entry) (inbound : List Entry) (from : ℕ) →
    NoneMet from (length (regions_in inbound)) e.region (regions_in inbound) → find p (meets_with e (drop from inbound)) ≡ None
find_end_with p e inbound from none = ap (find p) (meets_with-end e inbound from none)

pub find-unprotected : (p : Meet → Bool) (e : Entry) (inbound : List Entry) → is_protect e.judgement ≡ false →
    find p (meets_with e inbound) ≡ None
find-unprotected p e inbound unprotected = ap (find p) (meets_with-unprotected e inbound unprotected)

-- ---- the entries

-- The index of an entry that is found is below their number.
pub below_all : (found : Option ℕ) (from : ℕ) (region : AnyBox) (inbound : List Entry) →
    ((index : ℕ) → boxes.first_met_from from region (regions_in inbound) ≡ Some index → IsFirstMet from region (regions_in inbound) index) →
    found ≡ boxes.first_met_from from region (regions_in inbound) → IfSome found (λ index. index < length inbound)
below_all None from region inbound law is = tt
below_all (Some index) from region inbound law is =
    let all = length-map inbound (λ (entry : Entry). entry.region) in
    let first = law index (sym is) in
    omega (arith, first.within, all)
