-- Why a policy can't be made or edited.
use Rattle.std.specs.Prelude.{◌≡◌, ℕ, codes, List, Result, Ok, Err}
use Rattle.spd_line.specs.declared.line.LineParts.{LineParts}
use Rattle.spd_order.specs.declared.fault.OrderFault.{OrderFault}

-- What is printed of a fault.
abbrev pub order_fault_text : OrderFault → List ℕ
order_fault_text OrderFault.TooManyLines = codes "too many lines"
order_fault_text OrderFault.NoSuchName = codes "no such name"
order_fault_text OrderFault.NameTaken = codes "name taken"
order_fault_text OrderFault.BadPlace = codes "bad place"
order_fault_text OrderFault.NoMemory = codes "out of memory"

-- The fault of an edit that was refused: its own, and out of memory only where it has none.
abbrev pub IsFaultOf : Result (List LineParts) OrderFault → OrderFault → Type 0
IsFaultOf (Ok lines) fault = fault ≡ OrderFault.NoMemory
IsFaultOf (Err found) fault = fault ≡ found
