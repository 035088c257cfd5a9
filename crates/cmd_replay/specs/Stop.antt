-- Why a replay stops at a trace line.
use Rattle.std.specs.Prelude.{ℕ, Some, Result, Ok, Err}
use Rattle.spd_file.specs.declared.fault.PolicyFault.{PolicyFault}
use Rattle.spd_lanes.specs.declared.fault.EditFault.{EditFault}
use Rattle.spd_lanes.specs.declared.fault.LaneFault.{LaneFault}
use Rattle.spd_lanes.specs.Run.{Refusal as Refused}
use Rattle.spd_order.specs.declared.fault.OrderFault.{OrderFault}
use Rattle.audit_frame.specs.declared.refusal.Refusal.{Refusal}
use Rattle.audit_frame.specs.declared.refusal.WriteRefused.{WriteRefused}
use Rattle.audit_frame.specs.Ends.{unwritten}
use Rattle.cmd_replay.specs.declared.command.ReplayEnd.{ReplayEnd}
use Rattle.cmd_replay.specs.declared.fault.TraceFault.{TraceFault}
use Rattle.cmd_replay.specs.declared.stop.Stop.{Stop}

-- A lack of memory, which no other fault holds.
abbrev pub no_memory : Stop
no_memory = Stop.Unwritten WriteRefused.NoMemory

-- By a refused event of a lane.
abbrev pub lane_stop : LaneFault → Stop
lane_stop LaneFault.NoMemory = no_memory
lane_stop fault = Stop.Fault (TraceFault.Lane fault)

-- By the table of an insertion.
abbrev pub table_stop : PolicyFault → Stop
table_stop PolicyFault.NoMemory = no_memory
table_stop fault = Stop.Fault (TraceFault.Table fault)

-- By an edit that can't be made, or that passes the limit.
abbrev pub order_stop : OrderFault → Stop
order_stop OrderFault.NoMemory = no_memory
order_stop fault = Stop.Fault (TraceFault.Edit fault)

abbrev pub edit_stop : EditFault → Stop
edit_stop (EditFault.Order fault) = order_stop fault
edit_stop (EditFault.Limit direction line) = Stop.Limit direction line
edit_stop EditFault.NoMemory = no_memory

-- By an event that the machine refuses.
abbrev pub event_stop : Refused → Stop
event_stop (Refused.OfLane fault) = lane_stop fault
event_stop (Refused.OfEdit fault) = edit_stop fault

-- How the command ends then, at the trace line of that number: by its fault, or by the limit of the policy that the word names.
abbrev pub ended_at : ℕ → ℕ → Stop → Result ReplayEnd Refusal
ended_at word number (Stop.Fault fault) = Ok (ReplayEnd.TraceFault number fault)
ended_at word number (Stop.Limit direction line) = Err (Refusal.EntryLimit word direction line (Some number))
ended_at word number (Stop.Unwritten refused) = Err (unwritten refused)
