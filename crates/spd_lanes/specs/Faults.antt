-- Why an edit, or an event of a lane, is refused.
use Rattle.std.specs.Prelude.{◌≡◌, ℕ, List, codes, Result, Ok, Err}
use Rattle.spd_lanes.specs.declared.fault.CompileFault.{CompileFault}
use Rattle.spd_lanes.specs.declared.fault.EditFault.{EditFault}
use Rattle.spd_lanes.specs.declared.fault.LaneFault.{LaneFault}

-- What is printed of a refused event of a lane.
abbrev pub lane_fault_text : LaneFault → List ℕ
lane_fault_text LaneFault.LaneBusy = codes "lane busy"
lane_fault_text LaneFault.LaneIdle = codes "lane idle"
lane_fault_text LaneFault.LaneNotFound = codes "lane not found"
lane_fault_text LaneFault.NoMemory = codes "out of memory"

-- The fault of an edit that passes the limit, or has no memory.
abbrev pub edit_fault_of : CompileFault → EditFault
edit_fault_of (CompileFault.Limit direction line) = EditFault.Limit direction line
edit_fault_of CompileFault.NoMemory = EditFault.NoMemory

-- The fault of an edit that was refused: its own first one. There may always be no memory.
abbrev pub IsEditFault : {X : Type 0} → Result X EditFault → EditFault → Type 0
IsEditFault found (EditFault.Order fault) = found ≡ Err (EditFault.Order fault)
IsEditFault found (EditFault.Limit direction line) = found ≡ Err (EditFault.Limit direction line)
IsEditFault found EditFault.NoMemory = Unit {0}

-- The fault of an event of a lane that was refused: its own, and out of memory only where it has none.
abbrev pub IsLaneFault : {X : Type 0} → Result X LaneFault → LaneFault → Type 0
IsLaneFault (Ok given) fault = fault ≡ LaneFault.NoMemory
IsLaneFault (Err found) fault = fault ≡ found
