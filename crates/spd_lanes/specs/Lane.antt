-- The steps of a lookup, each over what it sees: the cache alone, or the policy alone.
use Rattle.std.specs.Prelude.{Bool, true, false, not, List, Option, Some, None, option_map, Result, Ok, Err}
use Rattle.sel_box.specs.declared.packet.Direction.{Direction}
use Rattle.sel_box.specs.Packet.{PacketFields}
use Rattle.sel_box.specs.Point.{view_of}
use Rattle.spd_line.specs.declared.judgement.Answer.{Answer}
use Rattle.spd_line.specs.declared.line.LineParts.{LineParts}
use Rattle.spd_line.specs.declared.line_boxes.LineBox.{LineBox}
use Rattle.spd_cache.specs.declared.key.Key.{Key}
use Rattle.spd_cache.specs.Cached.{Cached, cached, first_hit, fronted, kept}
use Rattle.spd_groups.specs.Groups.{looked}
use Rattle.spd_lanes.specs.declared.fault.LaneFault.{LaneFault}
use Rattle.spd_lanes.specs.declared.lane.Filled.{Filled}
use Rattle.spd_lanes.specs.declared.lane.LaneState.{LaneState}
use Rattle.spd_lanes.specs.declared.lane.PacketAnswer.{PacketAnswer}

-- The packet that is looked up in a lane, and its direction.
abbrev pub held : LaneState → Option (Direction × PacketFields)
held LaneState.Idle = None
held (LaneState.Missed d p) = Some (d, p)
held (LaneState.Found d p answer key group fresh) = Some (d, p)

-- A lane after a look into the cache: idle where that answered.
abbrev pub after_hit : Direction → PacketFields → Option (Key × Answer) → LaneState
after_hit d p None = LaneState.Missed d p
after_hit d p (Some found) = LaneState.Idle

-- An idle lane takes a packet: the answer of the cache, and the cache and the lane after it.
abbrev pub take_idle : Direction → PacketFields → Cached → Option Answer × Cached × LaneState
take_idle d p cache =
    let found = first_hit d (view_of d p) cache.entries in
    (option_map (λ (hit : Key × Answer). hit.1) found, cached (fronted found cache.entries) cache.capacity, after_hit d p found)

-- A lane takes a packet, which it can where it is idle.
abbrev pub take_where : Direction → PacketFields → Cached → Option (Direction × PacketFields) → Result (Option Answer × Cached × LaneState) LaneFault
take_where d p cache None = Ok (take_idle d p cache)
take_where d p cache (Some other) = Err LaneFault.LaneBusy

abbrev pub take_step : Direction → PacketFields → Cached → LaneState → Result (Option Answer × Cached × LaneState) LaneFault
take_step d p cache lane = take_where d p cache (held lane)

-- A lane that has found the answer to a packet, fresh.
abbrev pub found_fresh : Direction → PacketFields → List LineParts → LaneState
found_fresh d p lines =
    let found = looked d (view_of d p) lines in
    LaneState.Found d p found.answer found.key found.group true

-- A lane looks its packet up in the policy: the answer, and the lane after it.
abbrev pub search_where : List LineParts → Option (Direction × PacketFields) → Result (Answer × LaneState) LaneFault
search_where lines None = Err LaneFault.LaneIdle
search_where lines (Some at) = Ok ((looked at.0 (view_of at.0 at.1) lines).answer, found_fresh at.0 at.1 lines)

abbrev pub search_step : List LineParts → LaneState → Result (Answer × LaneState) LaneFault
search_step lines lane = search_where lines (held lane)

-- The cache after a lookup ends: a fresh lane's group is kept.
abbrev pub filled_cache : Bool → Key → List LineBox → Cached → Cached
filled_cache true key group cache = cached (kept cache.capacity key group cache.entries) cache.capacity
filled_cache false key group cache = cache

-- A lane ends its lookup: the answer that it found, and the cache and the lane after it.
abbrev pub fill_step : Cached → LaneState → Result (Filled × Cached × LaneState) LaneFault
fill_step cache LaneState.Idle = Err LaneFault.LaneIdle
fill_step cache (LaneState.Missed d p) = Err LaneFault.LaneNotFound
fill_step cache (LaneState.Found d p answer key group fresh) =
    Ok (record { answer = answer; stale = not fresh }, filled_cache fresh key group cache, LaneState.Idle)

-- A packet that the cache doesn't answer: the policy's answer, and the cache with the group of the packet's key.
abbrev pub miss_step : Direction → PacketFields → List LineParts → Cached → PacketAnswer × Cached
miss_step d p lines cache =
    let found = looked d (view_of d p) lines in
    (record { answer = found.answer; hit = false }, cached (kept cache.capacity found.key found.group cache.entries) cache.capacity)

-- A packet that is answered at once: from the cache where it can, or else from the policy.
abbrev pub ask_where : Direction → PacketFields → List LineParts → Cached → Option (Key × Answer) → PacketAnswer × Cached
ask_where d p lines cache None = miss_step d p lines cache
ask_where d p lines cache (Some found) =
    (record { answer = found.1; hit = true }, cached (fronted (Some found) cache.entries) cache.capacity)

abbrev pub ask_step : Direction → PacketFields → List LineParts → Cached → PacketAnswer × Cached
ask_step d p lines cache = ask_where d p lines cache (first_hit d (view_of d p) cache.entries)
