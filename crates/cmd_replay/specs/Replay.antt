-- What `replay LIMIT CACHE POLICY TRACE` answers.
use Rattle.std.specs.Prelude.{ℕ, ◌+◌, List, [], ◌∷◌, Option, Some, None, Result, Ok, Err}
use Rattle.sel_box.specs.declared.packet.Direction.{Direction}
use Rattle.spd_file.specs.declared.fault.PolicyFault.{PolicyFault}
use Rattle.spd_file.specs.Line.{table_meaning}
use Rattle.spd_lanes.specs.declared.edit.Edit.{Edit}
use Rattle.spd_lanes.specs.Machine.{Machine, machine}
use Rattle.spd_lanes.specs.Policy.{over}
use Rattle.spd_lanes.specs.Run.{Event, Reply, step, Refusal as Refused}
use Rattle.spd_line.specs.declared.line.LineParts.{LineParts}
use Rattle.trace_text.specs.declared.fault.EventFault.{EventFault}
use Rattle.trace_text.specs.Event.{TraceEvent}
use Rattle.trace_text.specs.Trace.{events_of}
use Rattle.audit_frame.specs.declared.refusal.Refusal.{Refusal}
use Rattle.audit_frame.specs.Answer.{Answer, ending, refusing, with_file, with_line, with_policy}
use Rattle.cmd_replay.specs.declared.command.ReplayEnd.{ReplayEnd}
use Rattle.cmd_replay.specs.declared.fault.TraceFault.{TraceFault}
use Rattle.cmd_replay.specs.declared.reply.EventReply.{EventReply}
use Rattle.cmd_replay.specs.declared.stop.Stop.{Stop}
use Rattle.cmd_replay.specs.Reply.{reply_line, reply_of}
use Rattle.cmd_replay.specs.Stop.{ended_at, event_stop}
use Rattle.cmd_replay.specs.Words.{most_trace, ReplayWords}

-- An insertion of the line that a table is, or the table's fault.
abbrev pub insertion : ℕ → Result LineParts PolicyFault → Result Event TraceFault
insertion place (Ok line) = Ok (Event.Change (Edit.Insert place line))
insertion place (Err fault) = Err (TraceFault.Table fault)

-- The event of the machine that a trace line asks for, or the fault of its table.
abbrev pub asked_event : TraceEvent → Result Event TraceFault
asked_event (TraceEvent.Pkt direction packet) = Ok (Event.AtOnce direction packet)
asked_event (TraceEvent.Take lane direction packet) = Ok (Event.Take lane direction packet)
asked_event (TraceEvent.Search lane) = Ok (Event.Search lane)
asked_event (TraceEvent.Fill lane) = Ok (Event.Fill lane)
asked_event (TraceEvent.Insert place table) = insertion place (table_meaning table)
asked_event (TraceEvent.Delete name) = Ok (Event.Change (Edit.Delete name))
asked_event (TraceEvent.Move name place) = Ok (Event.Change (Edit.Move name place))

-- The reply of the machine to an event and the machine after it, or why the replay stops.
abbrev pub replied : Result (Reply × Machine) Refused → Result (EventReply × Machine) Stop
replied (Ok stepped) = Ok (reply_of stepped.1.lines stepped.0, stepped.1)
replied (Err refused) = Err (event_stop refused)

-- The same of what a trace line asks for.
abbrev pub stepped : Result Event TraceFault → Machine → Result (EventReply × Machine) Stop
stepped (Ok event) m = replied (step event m)
stepped (Err fault) m = Err (Stop.Fault fault)

-- A stop at the trace line of that number, before which nothing more is written.
abbrev pub stopping : ℕ → ℕ → Stop → Answer ReplayEnd
stopping word number stop = record { ended = ended_at word number stop; lines = [] }

-- The line of a reply, and then the others by the machine after it.
abbrev pub by_reply : ℕ → ℕ → Result (EventReply × Machine) Stop → (Machine → Answer ReplayEnd) → Answer ReplayEnd
by_reply word number (Ok reply) others = with_line (reply_line number reply.0) (others reply.1)
by_reply word number (Err stop) others = stopping word number stop

-- What the trace line of that number asks for, before the others: nothing leaves the machine as it is.
abbrev pub by_event : ℕ → ℕ → Option TraceEvent → Machine → (Machine → Answer ReplayEnd) → Answer ReplayEnd
by_event word number None m others = others m
by_event word number (Some event) m others = by_reply word number (stepped (asked_event event) m) others

-- A trace line of that number before the others, where its text is allowed.
abbrev pub by_text : ℕ → ℕ → Result (Option TraceEvent) EventFault → Machine → (Machine → Answer ReplayEnd) → Answer ReplayEnd
by_text word number (Ok event) m others = by_event word number event m others
by_text word number (Err fault) m others = stopping word number (Stop.Fault (TraceFault.Text fault))

-- Line by line, up to the first at which the replay stops. Where there is none, the machine is the one after all events.
abbrev pub trace_answer : ℕ → ℕ → List (Result (Option TraceEvent) EventFault) → Machine → Answer ReplayEnd
trace_answer word number [] m = ending (ReplayEnd.Done m)
trace_answer word number (event ∷ more) m = by_text word number event m (trace_answer word (number + 1) more)

-- The answer by the policy's lines and a trace: the machine begins with idle lanes and no key.
abbrev pub by_trace : ReplayWords → List LineParts → List ℕ → Option (Answer ReplayEnd)
by_trace command lines trace =
    Some (trace_answer command.policy.word 1 (events_of trace) (machine lines command.limit command.capacity))

-- Goes on where a policy that a word names keeps within the limit, outbound before inbound.
abbrev pub unless_passed : {A : Type 0} → ℕ → Option (Direction × ℕ) → Option (Answer A) → Option (Answer A)
unless_passed word None next = next
unless_passed word (Some passed) next = Some (refusing (Refusal.EntryLimit word passed.0 passed.1 None))

-- The answer by the policy's lines, whose limit comes before the trace.
abbrev pub by_lines : (List ℕ → Option (List ℕ)) → ReplayWords → List LineParts → Option (Answer ReplayEnd)
by_lines told command lines =
    unless_passed command.policy.word (over command.limit lines) (with_file told command.trace most_trace (by_trace command lines))

-- The answer of the command; a file that isn't told leaves it open.
abbrev pub replay_answer : (List ℕ → Option (List ℕ)) → ReplayWords → Option (Answer ReplayEnd)
replay_answer told command = with_policy told command.policy (by_lines told command)
