-- What replaying one line of a trace does.
use Rattle.std.specs.Prelude.{◌≡◌, ℕ, ◌+◌, ◌<◌, ◌≤◌, List, drop, length, Option, Result, Ok, Err}
use Rattle.spd_lanes.specs.Machine.{Machine}
use Rattle.trace_text.specs.Event.{TraceEvent}
use Rattle.trace_text.specs.Trace.{events_of}
use Rattle.audit_frame.specs.declared.refusal.WriteRefused.{WriteRefused}
use Rattle.audit_frame.specs.Answer.{Answer, IsSent}
use Rattle.audit_frame.specs.Ends.{EndsBy, WriteCauses}
use Rattle.cmd_replay.specs.declared.command.ReplayEnd.{ReplayEnd}
use Rattle.cmd_replay.specs.declared.stop.Stop.{Stop}
use Rattle.cmd_replay.specs.Replay.{by_event, trace_answer}
use Rattle.cmd_replay.specs.Stop.{ended_at}

-- The stop is the one that was found. There may always be no memory.
abbrev pub IsStop : {A : Type 0} → Result A Stop → Stop → Type 0
IsStop found (Stop.Fault fault) = found ≡ Err (Stop.Fault fault)
IsStop found (Stop.Limit direction line) = found ≡ Err (Stop.Limit direction line)
IsStop found (Stop.Unwritten WriteRefused.NoMemory) = Unit {0}
IsStop found (Stop.Unwritten WriteRefused.WriteFault) = ⊥

-- The machine and the text after what a trace line asks for, and before the others.
abbrev pub IsReplayed : ℕ → Option TraceEvent → Machine → Machine → Option (List ℕ) → Option (List ℕ) → Type 0
IsReplayed number event m after before now =
    (word : ℕ) (others : Machine → Answer ReplayEnd) → IsSent (by_event word number event m others) (others after) before now

-- The answer ends by the stop, and was written so far, or the first bytes of it were.
abbrev pub IsStopped : ℕ → Option TraceEvent → Machine → Option (List ℕ) → Option (List ℕ) → Stop → Type 0
IsStopped number event m before now stop =
    (word : ℕ) (others : Machine → Answer ReplayEnd) → EndsBy (by_event word number event m others) before now (ended_at word number stop)

-- The first so many bytes of a trace, one line, were replayed and written.
pub record IsReplayedLine (number : ℕ) (trace : List ℕ) (m after : Machine) (before now : Option (List ℕ)) (taken : ℕ) : Type 0 where
  pub sent : (word : ℕ)
      → IsSent (trace_answer word number (events_of trace) m) (trace_answer word (number + 1) (events_of (drop taken trace)) after) before now
  pub some : 0 < taken
  pub fits : taken ≤ length trace

-- The answer to a trace ends by a stop at its first line.
abbrev pub IsStoppedLine : ℕ → List ℕ → Machine → Option (List ℕ) → Option (List ℕ) → Stop → Type 0
IsStoppedLine number trace m before now stop =
    (word : ℕ) → EndsBy (trace_answer word number (events_of trace) m) before now (ended_at word number stop)

-- A fault of writing is one that the sink counted; every other stop comes without one.
abbrev pub StopCauses : ℕ → ℕ → Stop → Type 0
StopCauses before now (Stop.Fault fault) = now ≡ before
StopCauses before now (Stop.Limit direction line) = now ≡ before
StopCauses before now (Stop.Unwritten refused) = WriteCauses before now refused
