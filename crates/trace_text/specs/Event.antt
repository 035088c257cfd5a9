-- What a trace line asks for.
use Rattle.std.specs.Prelude.{ℕ, ◌≤◌, List}
use Rattle.sel_box.specs.declared.packet.Direction.{Direction}
use Rattle.sel_box.specs.Packet.{PacketFields}
use Rattle.trace_text.specs.declared.event.Event.{Event}

-- An event: a packet judged at once, the three steps of a lane, and the three edits of a policy by
-- places that are counted from 1. A table and a name are their bytes.
pub data TraceEvent : Type 0 where
  Pkt : Direction → PacketFields → TraceEvent
  Take : ℕ → Direction → PacketFields → TraceEvent
  Search : ℕ → TraceEvent
  Fill : ℕ → TraceEvent
  Insert : ℕ → List ℕ → TraceEvent
  Delete : List ℕ → TraceEvent
  Move : List ℕ → ℕ → TraceEvent

-- The event that a reader answers, its table being lent.
abbrev pub event_now : Event → TraceEvent
event_now (Event.Pkt direction packet) = Pkt direction packet
event_now (Event.Take lane direction packet) = Take lane direction packet
event_now (Event.Search lane) = Search lane
event_now (Event.Fill lane) = Fill lane
event_now (Event.Insert place table) = Insert place table.now
event_now (Event.Delete name) = Delete name
event_now (Event.Move name place) = Move name place

-- The lane, where there is one, is one of sixteen.
abbrev pub HasLane : Event → Type 0
HasLane (Event.Take lane direction packet) = lane ≤ 15
HasLane (Event.Search lane) = lane ≤ 15
HasLane (Event.Fill lane) = lane ≤ 15
HasLane event = Unit {0}
