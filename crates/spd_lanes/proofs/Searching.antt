-- A search is that of the machine.
use Rattle.std.proofs.Common.{◌≡◌, ℕ, ◌<◌, List, length, get_or, set, refl, sym, ap, ◌∙◌, Ok, Err, Result}
use Rattle.std.specs.Result.{IfOk}
use Rattle.std.proofs.lemmas.List.{map-set}
use Rattle.sel_box.specs.declared.packet.Direction.{Direction}
use Rattle.sel_box.specs.Packet.{PacketFields}
use Rattle.sel_box.specs.Point.{view_of}
use Rattle.spd_line.specs.declared.judgement.Answer.{Answer}
use Rattle.spd_line.specs.declared.line.LineParts.{LineParts}
use Rattle.spd_cache.specs.Cached.{Cached}
use Rattle.spd_groups.specs.Groups.{answer_of}
use Rattle.spd_lanes.specs.declared.fault.LaneFault.{LaneFault}
use Rattle.spd_lanes.specs.declared.lane.LaneState.{LaneState}
use Rattle.spd_lanes.specs.Lane.{found_fresh, search_step}
use Rattle.spd_lanes.specs.Machine.{Lane, Machine, searched, searched_on}
use Rattle.spd_lanes.specs.inner.Kept.{seen, shown}
use Rattle.spd_lanes.proofs.Following.{seen_at}

module _ (lines : List LineParts) (limit : ℕ) (cache : Cached) (lanes : List LaneState) (place : ℕ) where
  abbrev m : Machine
  m = shown lines limit cache lanes

  -- the reply, and the machine with the lane after the search
  abbrev after_search : Result (Answer × LaneState) LaneFault → Result (Answer × Machine) LaneFault
  after_search (Ok r) = Ok (r.0, shown lines limit cache (set lanes place r.1))
  after_search (Err fault) = Err fault

  abbrev with_lanes : Answer → List Lane → Result (Answer × Machine) LaneFault
  with_lanes answer ls = Ok (answer, record m { lanes = ls })

  found : (d : Direction) (p : PacketFields) →
      with_lanes (answer_of d (view_of d p) lines) (set m.lanes place (seen (found_fresh d p lines)))
      ≡ after_search (Ok (answer_of d (view_of d p) lines, found_fresh d p lines))
  found d p = ap (with_lanes (answer_of d (view_of d p) lines)) (sym (map-set seen lanes place (found_fresh d p lines)))

  pub searched-is : place < length lanes → (state : LaneState) → state ≡ get_or lanes place state →
      searched place m ≡ after_search (search_step lines state)
  searched-is below state is = ap (λ (l : Lane). searched_on place l m) (seen_at lines limit cache lanes place state below is) ∙ by_state state
    where
      by_state : (state : LaneState) → searched_on place (seen state) m ≡ after_search (search_step lines state)
      by_state LaneState.Idle = refl
      by_state (LaneState.Missed d p) = found d p
      by_state (LaneState.Found d p answer key group fresh) = found d p

  pub searched-returns : (result : Result Answer LaneFault) (state new : LaneState) → searched place m ≡ after_search (search_step lines state) →
      IfOk result (λ answer. search_step lines state ≡ Ok (answer, new)) →
      IfOk result (λ answer. searched place m ≡ Ok (answer, shown lines limit cache (set lanes place new)))
  searched-returns (Ok answer) state new is ok = is ∙ ap after_search ok
  searched-returns (Err fault) state new is ok = tt
