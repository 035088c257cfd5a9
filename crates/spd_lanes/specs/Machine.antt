-- The shared machine: a policy, the keys of what is cached, and lanes in which lookups go on while the policy is edited.
use Rattle.std.specs.Prelude.{ℕ, Bool, true, false, not, List, [], ◌∷◌, map, replicate, take, slice_index_or, slice_set, Option, Some, None, Result}
use Rattle.std.specs.Prelude.{Ok, Err, if◌then◌else◌}
use Rattle.std.specs.List.{list_any}
use Rattle.std.specs.Set.{remove_key}
use Rattle.sel_box.specs.declared.packet.Direction.{Direction}
use Rattle.sel_box.specs.Packet.{PacketFields}
use Rattle.sel_box.specs.Point.{view_of}
use Rattle.spd_line.specs.declared.judgement.Answer.{Answer}
use Rattle.spd_line.specs.declared.line.LineParts.{LineParts}
use Rattle.spd_cache.specs.declared.key.Key.{Key}
use Rattle.spd_cache.specs.Key.{same_key}
use Rattle.spd_cache.specs.KeyOf.{key_of}
use Rattle.spd_groups.specs.Groups.{answer_of}
use Rattle.spd_lanes.specs.declared.edit.Edit.{Edit}
use Rattle.spd_lanes.specs.declared.fault.EditFault.{EditFault}
use Rattle.spd_lanes.specs.declared.fault.LaneFault.{LaneFault}
use Rattle.spd_lanes.specs.declared.lane.Filled.{Filled}
use Rattle.spd_lanes.specs.declared.lane.PacketAnswer.{PacketAnswer}
use Rattle.spd_lanes.specs.Policy.{changed_by, edited_lines}

-- A lane: it has no packet, has missed one, or has found the answer to one with its key, fresh where no edit came since.
pub data Lane : Type 0 where
  Idle : Lane
  Missed : Direction → PacketFields → Lane
  Found : Direction → PacketFields → Answer → Key → Bool → Lane

-- The state: the policy with its limit, the keys, the most recently used first and at most as many as the capacity, and the lanes.
pub record Machine : Type 0 where
  pub lines : List LineParts
  pub limit : ℕ
  pub capacity : ℕ
  pub keys : List Key
  pub lanes : List Lane

-- It begins with no key, and sixteen idle lanes.
abbrev pub machine : List LineParts → ℕ → ℕ → Machine
machine lines limit capacity =
    record { lines = lines; limit = limit; capacity = capacity; keys = []; lanes = replicate 16 Lane.Idle }

-- The lane at an index, counted from 0, and the machine with another lane there.
abbrev pub lane_at : ℕ → Machine → Lane
lane_at place m = slice_index_or m.lanes place Lane.Idle

abbrev pub with_lane : ℕ → Lane → Machine → Machine
with_lane place lane m = record m { lanes = slice_set m.lanes place lane }

-- The keys after one was used: it goes first.
abbrev pub used : Key → List Key → List Key
used key keys = key ∷ remove_key (same_key key) keys

-- The keys after one was put in: it goes first, and past the capacity the last is dropped.
abbrev pub put_in : ℕ → Key → List Key → List Key
put_in capacity key keys = take capacity (used key keys)

-- A take in an idle lane: where the packet's key is there, the answer of the first line, and the key goes first. Otherwise the lane has missed the packet.
abbrev pub taken_idle : ℕ → Direction → PacketFields → Machine → Option Answer × Machine
taken_idle place d p m =
    let x = view_of d p in
    let key = key_of d x m.lines in
    if list_any (same_key key) m.keys
    then (Some (answer_of d x m.lines), record m { keys = used key m.keys })
    else (None, with_lane place (Lane.Missed d p) m)

-- Only an idle lane takes a packet.
abbrev pub taken_on : ℕ → Direction → PacketFields → Lane → Machine → Result (Option Answer × Machine) LaneFault
taken_on place d p Lane.Idle m = Ok (taken_idle place d p m)
taken_on place d p (Lane.Missed e q) m = Err LaneFault.LaneBusy
taken_on place d p (Lane.Found e q answer key fresh) m = Err LaneFault.LaneBusy

abbrev pub taken : ℕ → Direction → PacketFields → Machine → Result (Option Answer × Machine) LaneFault
taken place d p m = taken_on place d p (lane_at place m) m

-- What the policy says of a packet now: a lane that has found it, fresh.
abbrev pub found_now : Direction → PacketFields → List LineParts → Lane
found_now d p lines = Lane.Found d p (answer_of d (view_of d p) lines) (key_of d (view_of d p) lines) true

-- A search of a lane that has a packet, also of one that had found: the answer of the first line of the policy as it is.
abbrev pub searched_on : ℕ → Lane → Machine → Result (Answer × Machine) LaneFault
searched_on place Lane.Idle m = Err LaneFault.LaneIdle
searched_on place (Lane.Missed d p) m = Ok (answer_of d (view_of d p) m.lines, with_lane place (found_now d p m.lines) m)
searched_on place (Lane.Found d p answer key fresh) m = Ok (answer_of d (view_of d p) m.lines, with_lane place (found_now d p m.lines) m)

abbrev pub searched : ℕ → Machine → Result (Answer × Machine) LaneFault
searched place m = searched_on place (lane_at place m) m

-- The keys after a fill: only what is fresh is put in.
abbrev pub filled_keys : Bool → ℕ → Key → List Key → List Key
filled_keys true capacity key keys = put_in capacity key keys
filled_keys false capacity key keys = keys

-- A fill of a lane that has found: the answer that it holds, and the lane is idle.
abbrev pub filled_on : ℕ → Lane → Machine → Result (Filled × Machine) LaneFault
filled_on place Lane.Idle m = Err LaneFault.LaneIdle
filled_on place (Lane.Missed d p) m = Err LaneFault.LaneNotFound
filled_on place (Lane.Found d p answer key fresh) m =
    Ok (
      record { answer = answer; stale = not fresh },
      with_lane place Lane.Idle (record m { keys = filled_keys fresh m.capacity key m.keys }),
    )

abbrev pub filled : ℕ → Machine → Result (Filled × Machine) LaneFault
filled place m = filled_on place (lane_at place m) m

-- A packet answered at once, on no lane: the answer of the first line, a hit where its key is there. The key goes first, or is put in.
abbrev pub asked : Direction → PacketFields → Machine → PacketAnswer × Machine
asked d p m =
    let x = view_of d p in
    let key = key_of d x m.lines in
    if list_any (same_key key) m.keys
    then (record { answer = answer_of d x m.lines; hit = true }, record m { keys = used key m.keys })
    else (record { answer = answer_of d x m.lines; hit = false }, record m { keys = put_in m.capacity key m.keys })

-- A lane after an edit: none is fresh.
abbrev pub stale_lane : Lane → Lane
stale_lane Lane.Idle = Lane.Idle
stale_lane (Lane.Missed d p) = Lane.Missed d p
stale_lane (Lane.Found d p answer key fresh) = Lane.Found d p answer key false

-- An edit: the policy is the edited one, no key is left, and no lane is fresh.
abbrev pub with_lines : Machine → Result (List LineParts) EditFault → Result Machine EditFault
with_lines m (Ok lines) = Ok (record m { lines = lines; keys = []; lanes = map stale_lane m.lanes })
with_lines m (Err fault) = Err fault

abbrev pub edited : Edit → Machine → Result Machine EditFault
edited change m = with_lines m (edited_lines m.limit (changed_by change m.lines))
