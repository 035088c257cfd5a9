-- A policy with a limit of its entries, and its edits.
use Rattle.std.specs.Prelude.{◌≡◌, ℕ, List, Option, Some, None, option_map, Result, Ok, Err}
use Rattle.std.specs.Option.{option_or}
use Rattle.sel_box.specs.declared.packet.Direction.{Direction}
use Rattle.spd_line.specs.declared.line.LineParts.{LineParts}
use Rattle.spd_order.specs.declared.fault.OrderFault.{OrderFault}
use Rattle.spd_order.specs.Edits.{deleted, inserted, moved}
use Rattle.spd_cut.specs.Steps.{first_over, steps}
use Rattle.spd_lanes.specs.declared.edit.Edit.{Edit}
use Rattle.spd_lanes.specs.declared.fault.CompileFault.{CompileFault}
use Rattle.spd_lanes.specs.declared.fault.EditFault.{EditFault}

-- The lines in their order, and the most entries and pieces that there may be at once in a direction.
pub record Policy : Type 0 where
  pub lines : List LineParts
  pub limit : ℕ

abbrev pub policy : List LineParts → ℕ → Policy
policy lines limit = record { lines = lines; limit = limit }

-- Where the limit is first passed in a direction: the direction, and the line.
abbrev pub over_in : ℕ → Direction → List LineParts → Option (Direction × ℕ)
over_in limit d lines = option_map (λ (line : ℕ). (d, line)) (first_over limit (steps d lines))

-- The same of both directions, outbound before inbound.
abbrev pub over : ℕ → List LineParts → Option (Direction × ℕ)
over limit lines = option_or (over_in limit Direction.Outbound lines) (over_in limit Direction.Inbound lines)

-- The fault of a policy that isn't compiled: where the limit is first passed. There may always be no memory.
abbrev pub IsLimitOf : Option (Direction × ℕ) → CompileFault → Type 0
IsLimitOf found (CompileFault.Limit direction line) = found ≡ Some (direction, line)
IsLimitOf found CompileFault.NoMemory = Unit {0}

-- The lines after an edit, or its first fault.
abbrev pub changed_by : Edit → List LineParts → Result (List LineParts) OrderFault
changed_by (Edit.Insert place line) lines = inserted place line lines
changed_by (Edit.Delete name) lines = deleted name lines
changed_by (Edit.Move name place) lines = moved name place lines

-- Edited lines where they keep within the limit.
abbrev pub lines_within : List LineParts → Option (Direction × ℕ) → Result (List LineParts) EditFault
lines_within lines None = Ok lines
lines_within lines (Some passed) = Err (EditFault.Limit passed.0 passed.1)

-- The lines after an edit of a policy with a limit: the edit's own fault comes first, then the limit.
abbrev pub edited_lines : ℕ → Result (List LineParts) OrderFault → Result (List LineParts) EditFault
edited_lines limit (Ok lines) = lines_within lines (over limit lines)
edited_lines limit (Err fault) = Err (EditFault.Order fault)
