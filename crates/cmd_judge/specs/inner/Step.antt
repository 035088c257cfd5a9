-- What judging one line of a trace does.
use Rattle.std.specs.Prelude.{◌≡◌, ℕ, ◌+◌, ◌<◌, ◌≤◌, List, drop, length, Option, Result, Ok, Err}
use Rattle.spd_line.specs.declared.line.LineParts.{LineParts}
use Rattle.trace_text.specs.Event.{TraceEvent}
use Rattle.trace_text.specs.Trace.{events_of}
use Rattle.audit_frame.specs.Answer.{Answer, ending, IsSent}
use Rattle.cmd_judge.specs.declared.command.JudgeEnd.{JudgeEnd}
use Rattle.cmd_judge.specs.declared.command.TraceFault.{TraceFault}
use Rattle.cmd_judge.specs.Judge.{by_event, trace_answer}

-- The first so many bytes of a trace, one line, were judged and written.
pub record IsJudgedLine (lines : List LineParts) (number : ℕ) (trace : List ℕ) (taken : ℕ) (before now : Option (List ℕ)) : Type 0 where
  pub sent : IsSent (trace_answer lines number (events_of trace)) (trace_answer lines (number + 1) (events_of (drop taken trace))) before now
  pub some : 0 < taken
  pub fits : taken ≤ length trace

-- It is the end of the answer that the line is refused, and nothing was written.
pub record IsRefused (number : ℕ) (answer : Answer JudgeEnd) (fault : TraceFault) (before now : Option (List ℕ)) : Type 0 where
  pub answer_is : answer ≡ ending (JudgeEnd.TraceFault number fault)
  pub unchanged : now ≡ before

-- By what is said of the line: how many bytes it has, or its fault.
abbrev pub IsLine : List LineParts → ℕ → List ℕ → Option (List ℕ) → Option (List ℕ) → Result ℕ TraceFault → Type 0
IsLine lines number trace before now (Ok taken) = IsJudgedLine lines number trace taken before now
IsLine lines number trace before now (Err fault) = IsRefused number (trace_answer lines number (events_of trace)) fault before now

-- The same of what the line asks for, whatever follows it.
abbrev pub IsEvent : List LineParts → ℕ → Option TraceEvent → Option (List ℕ) → Option (List ℕ) → Result (Unit {0}) TraceFault → Type 0
IsEvent lines number event before now (Ok _) = (others : Answer JudgeEnd) → IsSent (by_event lines number event others) others before now
IsEvent lines number event before now (Err fault) = (others : Answer JudgeEnd) → IsRefused number (by_event lines number event others) fault before now
