-- What `replay` writes and leaves, said of the runs of the shared machine over the events of the trace.
use Rattle.std.specs.Prelude.{◌≡◌, ℕ, ◌+◌, ◌++◌, List, [], ◌∷◌, map, Option, Some, Result, Ok, Err}
use Rattle.pair_io.specs.Gains.{Gains}
use Rattle.sel_box.specs.Point.{view_of}
use Rattle.spd_file.specs.Policy.{policy_meaning}
use Rattle.spd_groups.specs.Groups.{answer_of}
use Rattle.spd_lanes.specs.Machine.{Machine, lane_at, machine}
use Rattle.spd_lanes.specs.Run.{Event, IsFilledAsSearched, Notes, Ran, Reply, no_notes, run, step}
use Rattle.spd_line.specs.declared.line.LineParts.{LineParts}
use Rattle.trace_text.specs.declared.fault.EventFault.{EventFault}
use Rattle.trace_text.specs.Event.{TraceEvent}
use Rattle.trace_text.specs.Trace.{events_of}
use Rattle.audit_frame.specs.Answer.{text_of}
use Rattle.cmd_replay.specs.declared.fault.TraceFault.{TraceFault}
use Rattle.cmd_replay.specs.Replay.{asked_event}
use Rattle.cmd_replay.specs.Reply.{reply_line, reply_of}
use Rattle.cmd_replay.specs.Words.{ReplayWords}

-- An event of a trace, with the number of its line.
pub record TracedEvent : Type 0 where
  pub number : ℕ
  pub event : Event

-- What a trace line asks for before the others; nothing where its table is no line.
abbrev pub before_others : ℕ → Result Event TraceFault → List TracedEvent → List TracedEvent
before_others number (Ok event) others = record { number = number; event = event } ∷ others
before_others number (Err fault) others = others

-- The events of a trace, in order, with the numbers of their lines from this one on.
abbrev pub traced_from : ℕ → List (Result (Option TraceEvent) EventFault) → List TracedEvent
traced_from number [] = []
traced_from number (Ok (Some event) ∷ more) = before_others number (asked_event event) (traced_from (number + 1) more)
traced_from number (_ ∷ more) = traced_from (number + 1) more

-- Those of a whole trace.
abbrev pub traced : List ℕ → List TracedEvent
traced trace = traced_from 1 (events_of trace)

-- Behind a run: a packet at once, and a take that hits, are answered by the policy's first line as it is now, and a fill as
-- that line did at the lane's last search, stale where an edit came since.
abbrev pub IsServedAs : Machine → Notes → Event → Reply → Type 0
IsServedAs m n (Event.AtOnce d p) (Reply.Asked reply) = reply.answer ≡ answer_of d (view_of d p) m.lines
IsServedAs m n (Event.Take place d p) (Reply.Taken (Some answer)) = answer ≡ answer_of d (view_of d p) m.lines
IsServedAs m n (Event.Fill place) (Reply.Filling reply) = IsFilledAsSearched n place (lane_at place m) reply
IsServedAs m n event reply = Unit {0}

-- The line of an event behind a run of those before it: its number with the machine's reply.
pub record IsReplied (earlier : Ran) (asked : TracedEvent) (line : List ℕ) : Type 0 where
  pub reply : Reply
  pub after : Machine
  pub stepped : step asked.event earlier.machine ≡ Ok (reply, after)
  pub text : line ≡ reply_line asked.number (reply_of after.lines reply)
  pub served : IsServedAs earlier.machine earlier.notes asked.event reply

-- Some events, behind earlier ones, have one such line each, in order.
abbrev pub AreReplied : Machine → List Event → List TracedEvent → List (List ℕ) → Type 0
AreReplied begun earlier [] [] = Unit {0}
AreReplied begun earlier (asked ∷ others) (line ∷ lines) =
    IsReplied (run earlier begun no_notes) asked line × AreReplied begun (earlier ++ asked.event ∷ []) others lines
AreReplied begun earlier events lines = ⊥

-- The machine at the beginning: the policy's lines, no key, and idle lanes.
abbrev pub begun_with : ReplayWords → List LineParts → Machine
begun_with command lines = machine lines command.limit command.capacity

-- The text gained one line for each event of the trace, in order.
pub record IsTraceReplayed (command : ReplayWords) (policy trace : List ℕ) (before now : Option (List ℕ)) : Type 0 where
  pub lines : List LineParts
  pub policy_is : policy_meaning policy ≡ Ok lines
  pub output : List (List ℕ)
  pub replied : AreReplied (begun_with command lines) [] (traced trace) output
  pub written : Gains before now (text_of output)

-- The machine is the one after a run over the events of the trace.
pub record HasRun (command : ReplayWords) (policy trace : List ℕ) (m : Machine) : Type 0 where
  pub lines : List LineParts
  pub policy_is : policy_meaning policy ≡ Ok lines
  pub after : m ≡ (run (map (λ (asked : TracedEvent). asked.event) (traced trace)) (begun_with command lines) no_notes).machine
