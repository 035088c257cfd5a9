-- What is printed of a fault of a trace line.
use Rattle.std.specs.Prelude.{ℕ, List, ◌++◌, codes, decimal}
use Rattle.trace_text.specs.declared.fault.EventFault.{EventFault}
use Rattle.trace_text.specs.declared.fault.EventFault.TheVariants.{LineTooLong, BadWord, NotAPacket}

-- The text of a fault, a word with its number.
abbrev pub event_fault_text : EventFault → List ℕ
event_fault_text LineTooLong = codes "line too long"
event_fault_text (BadWord word) = codes "bad word " ++ decimal word
event_fault_text NotAPacket = codes "not a packet"
