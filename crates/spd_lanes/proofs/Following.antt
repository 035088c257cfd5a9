-- What a step of a lane, or of the cache, makes of the machine that is shown.
use Rattle.std.proofs.Common.{◌≡◌, ℕ, ◌<◌, List, length, get_or, set, sym, subst, ap, ◌∙◌}
use Rattle.std.proofs.Common.{Result, Ok, Err}
use Rattle.std.specs.List.{All}
use Rattle.std.specs.Result.{IfOk, OnErr}
use Rattle.std.proofs.lemmas.List.{get_or-map, length-set, set-get_or}
use Rattle.std.proofs.lemmas.List.Elements.{All-set}
use Rattle.spd_line.specs.declared.line.LineParts.{LineParts}
use Rattle.spd_cache.specs.Cached.{Cached, Cell}
use Rattle.spd_groups.specs.Groups.{IsGroup}
use Rattle.spd_lanes.specs.declared.fault.LaneFault.{LaneFault}
use Rattle.spd_lanes.specs.declared.lane.LaneState.{LaneState}
use Rattle.spd_lanes.specs.Machine.{Lane, Machine, lane_at}
use Rattle.spd_lanes.specs.inner.Kept.{IsLane, Keeps, seen, shown}

-- The reply, and the machine with the cache and the lane after the step.
abbrev pub after : {A : Type 0} → List LineParts → ℕ → List LaneState → ℕ → Result (A × Cached × LaneState) LaneFault → Result (A × Machine) LaneFault
after lines limit lanes place (Ok r) = Ok (r.0, shown lines limit r.1 (set lanes place r.2))
after lines limit lanes place (Err fault) = Err fault

-- What the machine keeps stands after the step.
abbrev pub KeepsAfter : {A : Type 0} → List LineParts → List LaneState → ℕ → Result (A × Cached × LaneState) LaneFault → Type 0
KeepsAfter lines lanes place (Ok r) = Keeps lines r.1.entries (set lanes place r.2)
KeepsAfter lines lanes place (Err fault) = Unit {0}

-- A lane is seen as the machine has it.
pub seen_at : (lines : List LineParts) (limit : ℕ) (cache : Cached) (lanes : List LaneState) (place : ℕ) (state : LaneState) →
    place < length lanes → state ≡ get_or lanes place state → lane_at place (shown lines limit cache lanes) ≡ seen state
seen_at lines limit cache lanes place state below is = get_or-map seen lanes place state Lane.Idle below ∙ ap seen (sym is)

-- What is kept with another cache whose groups are the policy's.
pub keeps-cells : (lines : List LineParts) (cells new : List Cell) (lanes : List LaneState) →
    Keeps lines cells lanes → All (IsGroup lines) new → Keeps lines new lanes
keeps-cells lines cells new lanes keeps groups =
    record { policy = keeps.policy; groups = groups; found = keeps.found; sixteen = keeps.sixteen }

-- The same with another lane that holds what is found now.
pub keeps-with : (lines : List LineParts) (cells new : List Cell) (lanes : List LaneState) (place : ℕ) (state : LaneState) →
    Keeps lines cells lanes → All (IsGroup lines) new → IsLane lines state → Keeps lines new (set lanes place state)
keeps-with lines cells new lanes place state keeps groups found = record {
  policy = keeps.policy;
  groups = groups;
  found = All-set (IsLane lines) lanes place state found keeps.found;
  sixteen = length-set lanes place state ∙ keeps.sixteen;
}

module _ {A : Type 0} (lines : List LineParts) (lanes : List LaneState) (place : ℕ) (step : Result (A × Cached × LaneState) LaneFault)
    (old cache : Cached) (state default : LaneState) where
  -- a call that answers as the step does leaves the machine as it should be
  pub returns-after : (limit : ℕ) (result : Result A LaneFault) (machine : Result (A × Machine) LaneFault) →
      machine ≡ after lines limit lanes place step → IfOk result (λ a. step ≡ Ok (a, cache, state)) →
      IfOk result (λ a. machine ≡ Ok (a, shown lines limit cache (set lanes place state)))
  returns-after limit (Ok a) machine is ok = is ∙ ap (after lines limit lanes place) ok
  returns-after limit (Err fault) machine is ok = tt

  -- and keeps what it keeps
  pub keeps-after : (result : Result A LaneFault) → KeepsAfter lines lanes place step → Keeps lines old.entries lanes →
      IfOk result (λ a. step ≡ Ok (a, cache, state)) → OnErr result (cache ≡ old) → OnErr result (state ≡ get_or lanes place default) →
      Keeps lines cache.entries (set lanes place state)
  keeps-after (Ok a) new keeps ok cache_is state_is = subst (KeepsAfter lines lanes place) ok new
  keeps-after (Err fault) new keeps ok cache_is state_is =
      let same : set lanes place state ≡ lanes = ap (set lanes place) state_is ∙ set-get_or lanes place default in
      rw (cache_is, same) keeps
