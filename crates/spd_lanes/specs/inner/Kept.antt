-- What the shared machine keeps.
use Rattle.std.specs.Prelude.{◌≡◌, ℕ, true, false, List, All, length, map}
use Rattle.std.specs.Map.{keys_of}
use Rattle.spd_line.specs.declared.line.LineParts.{LineParts}
use Rattle.spd_line.specs.Policy.{IsPolicy}
use Rattle.spd_cache.specs.Cached.{Cached, Cell}
use Rattle.spd_groups.specs.Groups.{IsGroup}
use Rattle.spd_lanes.specs.declared.lane.LaneState.{LaneState}
use Rattle.spd_lanes.specs.Lane.{found_fresh}
use Rattle.spd_lanes.specs.Machine.{Lane, Machine}

-- A lane without the group that it holds.
abbrev pub seen : LaneState → Lane
seen LaneState.Idle = Lane.Idle
seen (LaneState.Missed d p) = Lane.Missed d p
seen (LaneState.Found d p answer key group fresh) = Lane.Found d p answer key fresh

-- The machine of a policy, a cache and lanes.
abbrev pub shown : List LineParts → ℕ → Cached → List LaneState → Machine
shown lines limit cache lanes =
    record { lines = lines; limit = limit; capacity = cache.capacity; keys = keys_of cache.entries; lanes = map seen lanes }

-- A lane after a search now where it is fresh, and as it is elsewhere.
abbrev pub refreshed : List LineParts → LaneState → LaneState
refreshed lines LaneState.Idle = LaneState.Idle
refreshed lines (LaneState.Missed d p) = LaneState.Missed d p
refreshed lines (LaneState.Found d p answer key group true) = found_fresh d p lines
refreshed lines (LaneState.Found d p answer key group false) = LaneState.Found d p answer key group false

-- A lane after an edit: it isn't fresh.
abbrev pub unfresh : LaneState → LaneState
unfresh LaneState.Idle = LaneState.Idle
unfresh (LaneState.Missed d p) = LaneState.Missed d p
unfresh (LaneState.Found d p answer key group fresh) = LaneState.Found d p answer key group false

-- A fresh lane holds what a search finds now.
abbrev pub IsLane : List LineParts → LaneState → Type 0
IsLane lines lane = refreshed lines lane ≡ lane

-- The lines are a policy, each cached group is that of its key, each fresh lane holds what a search finds now, and there are sixteen lanes.
pub record Keeps (lines : List LineParts) (cells : List Cell) (lanes : List LaneState) : Type 0 where
  pub policy : IsPolicy lines
  pub groups : All (IsGroup lines) cells
  pub found : All (IsLane lines) lanes
  pub sixteen : length lanes ≡ 16
