-- Runs of entries that are judged alike.
use Rattle.std.proofs.Common.{◌≡◌, ℕ, zero, suc, ◌+◌, ◌<◌, ◌≤◌, true, ◌⊎◌, inl, inr, List, [], ◌∷◌, ◌++◌, get_or, length, Option, Some, refl, sym, ap, ◌∙◌, subst, arith}
use Rattle.std.specs.Prelude.{slice_get}
use Rattle.std.proofs.lemmas.Bool.{cases_lt}
use Rattle.std.proofs.lemmas.List.{length-append}
use Rattle.std.proofs.lemmas.Option.{same_Some, slice_get-get_or, slice_get_read, slice_get_within}
use Rattle.spd_cut.specs.declared.entry.Entry.{Entry}
use Rattle.spd_line.specs.declared.judgement.Judgement.{Judgement}
use Rattle.pair_gap.specs.inner.Peer.{AreRuns, IsRun}

-- One entry alone.
pub IsRun-one : (entries : List Entry) (from : ℕ) → IsRun entries from (from + 1)
IsRun-one entries from = record {
  behind = omega arith;
  alike = λ j first entry low high is_first is_entry.
      let same : j ≡ from = omega arith in
      let at : slice_get entries from ≡ Some entry = subst (λ (n : ℕ). slice_get entries n ≡ Some entry) same is_entry in
      ap (λ (e : Entry). e.judgement) (same_Some entry first (sym at ∙ is_first));
}

-- One entry more.
pub IsRun-more : (entries : List Entry) (from end : ℕ) (first next : Entry) → IsRun entries from end → from < length entries → end < length entries →
    first ≡ get_or entries from first → next ≡ get_or entries end next → first.judgement ≡ next.judgement → IsRun entries from (end + 1)
IsRun-more entries from end first next run from_within end_within is_first is_next same = record {
  behind = let behind : from < end = run.behind in omega arith;
  alike = λ j first' entry low high at_first at_entry. go j first' entry low high at_first at_entry (cases_lt j end);
}
  where
    first_at : slice_get entries from ≡ Some first
    first_at = slice_get_read entries (length entries) from first refl from_within is_first

    next_at : slice_get entries end ≡ Some next
    next_at = slice_get_read entries (length entries) end next refl end_within is_next

    go : (j : ℕ) (first' entry : Entry) → from ≤ j → j < end + 1 → slice_get entries from ≡ Some first' → slice_get entries j ≡ Some entry →
        (j < end) ⊎ (end ≤ j) → entry.judgement ≡ first'.judgement
    go j first' entry low high at_first at_entry (inl below) = run.alike j first' entry low below at_first at_entry
    go j first' entry low high at_first at_entry (inr above) =
        let last : j ≡ end = omega arith in
        let at : slice_get entries end ≡ Some entry = subst (λ (n : ℕ). slice_get entries n ≡ Some entry) last at_entry in
        ap (λ (e : Entry). e.judgement) (same_Some entry next (sym at ∙ next_at))
        ∙ sym same
        ∙ ap (λ (e : Entry). e.judgement) (same_Some first first' (sym first_at ∙ at_first))

-- What is left of a run behind its first entry.
pub IsRun-rest : (entries : List Entry) (from end : ℕ) → IsRun entries from end → from < length entries → from + 1 < end → IsRun entries (from + 1) end
IsRun-rest entries from end run within more = record {
  behind = more;
  alike = λ j next entry low high at_next at_entry.
      let first_at = slice_get-get_or entries from next within in
      run.alike j (get_or entries from next) entry (omega arith) high first_at at_entry
      ∙ sym (run.alike (from + 1) (get_or entries from next) next (omega arith) more first_at at_next);
}

-- The ends so far.
pub record SoFar (entries : List Entry) (ends : List ℕ) (index end : ℕ) : Type 0 where
  pub count : length ends ≡ index
  pub each : (k past : ℕ) → slice_get ends k ≡ Some past → IsRun entries k past
  pub going : index < end → IsRun entries index end

pub SoFar-none : (entries : List Entry) → SoFar entries [] 0 0
SoFar-none entries = record { count = refl; each = λ k past is. cc; going = λ below. absurd (omega arith) }

-- An item of a list with one more is an item of the list, or the last.
pushed : (ends : List ℕ) (end k past : ℕ) → slice_get (ends ++ end ∷ []) k ≡ Some past → (slice_get ends k ≡ Some past) ⊎ ((k ≡ length ends) × (past ≡ end))
pushed [] end zero past is = inr (refl, sym (same_Some end past is))
pushed [] end (suc k) past is = absurd (let none : ⊥ = cc in none)
pushed (e ∷ ends) end zero past is = inl is
pushed (e ∷ ends) end (suc k) past is = go (pushed ends end k past is)
  where
    go : (slice_get ends k ≡ Some past) ⊎ ((k ≡ length ends) × (past ≡ end)) →
        (slice_get ends k ≡ Some past) ⊎ ((suc k ≡ suc (length ends)) × (past ≡ end))
    go (inl is) = inl is
    go (inr last) = inr (ap suc last.0, last.1)

pub SoFar-more : (entries : List Entry) (ends : List ℕ) (index end past : ℕ) → SoFar entries ends index end → index < length entries →
    IsRun entries index past → SoFar entries (ends ++ past ∷ []) (index + 1) past
SoFar-more entries ends index end past so_far within run = record {
  count = omega (arith, length-append ends (past ∷ []), so_far.count);
  each = λ k other is. go k other (pushed ends past k other is);
  going = λ more. IsRun-rest entries index past run within more;
}
  where
    go : (k other : ℕ) → (slice_get ends k ≡ Some other) ⊎ ((k ≡ length ends) × (other ≡ past)) → IsRun entries k other
    go k other (inl is) = so_far.each k other is
    go k other (inr last) =
        let here : index ≡ k = sym (last.0 ∙ so_far.count) in
        subst (λ (n : ℕ). IsRun entries n other) here (subst (λ (n : ℕ). IsRun entries index n) (sym last.1) run)

pub AreRuns-all : (entries : List Entry) (ends : List ℕ) (index end : ℕ) → SoFar entries ends index end → index ≡ length entries → AreRuns entries ends
AreRuns-all entries ends index end so_far all = record { all = so_far.count ∙ all; each = so_far.each }
