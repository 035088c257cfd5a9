-- What `judge POLICY TRACE` answers.
use Rattle.std.specs.Str.{bytes_eq}
use Rattle.std.specs.Prelude.{ℕ, ◌+◌, ◌++◌, codes, decimal, List, [], ◌∷◌, Option, Some, None, Result, Ok, Err, if◌then◌else◌}
use Rattle.sel_box.specs.declared.packet.Direction.{Direction}
use Rattle.sel_box.specs.Packet.{PacketFields}
use Rattle.sel_box.specs.Point.{view_of}
use Rattle.spd_line.specs.declared.judgement.Answer.{Answer as Verdict}
use Rattle.spd_line.specs.declared.line.LineParts.{LineParts}
use Rattle.spd_line.specs.First.{name_at, verdict_of}
use Rattle.spd_text.specs.JudgementText.{verdict_text}
use Rattle.trace_text.specs.declared.fault.EventFault.{EventFault}
use Rattle.trace_text.specs.Event.{TraceEvent, Pkt}
use Rattle.trace_text.specs.Trace.{events_of}
use Rattle.audit_frame.specs.Answer.{Answer, ending, with_file, with_line, with_policy}
use Rattle.audit_frame.specs.Causes.{InputFile}
use Rattle.audit_frame.specs.Loading.{plain_file, policy_file}
use Rattle.audit_frame.specs.Words.{file_in, FileWord}
use Rattle.cmd_judge.specs.declared.command.Judge.{Judge}
use Rattle.cmd_judge.specs.declared.command.JudgeEnd.{JudgeEnd}
use Rattle.cmd_judge.specs.declared.command.TraceFault.{TraceFault}

-- The command of a policy and a trace, where both are there.
abbrev pub command_of : Option FileWord → Option FileWord → Option Judge
command_of (Some policy) (Some trace) = Some (record { policy = policy; trace = trace })
command_of _ _ = None

-- The command of some words: `judge`, and the names of a policy and of a trace, neither empty.
abbrev pub judge_in : List (List ℕ) → Option Judge
judge_in (command ∷ policy ∷ trace ∷ []) =
    if bytes_eq command (codes "judge") then command_of (file_in 2 policy) (file_in 3 trace) else None
judge_in _ = None

-- The most bytes of a trace.
abbrev pub most_trace : ℕ
most_trace = 67108864

-- The files that it reads.
abbrev pub judge_files : Judge → List InputFile
judge_files command = policy_file command.policy ∷ plain_file command.trace most_trace ∷ []

-- A packet of a trace: the number of its line, the direction in which it passes, and what it shows.
pub record TracedPacket : Type 0 where
  pub number : ℕ
  pub direction : Direction
  pub packet : PacketFields

abbrev pub traced : ℕ → Direction → PacketFields → TracedPacket
traced number direction packet = record { number = number; direction = direction; packet = packet }

-- A verdict behind the number of a trace line.
abbrev pub numbered : ℕ → Verdict → List ℕ
numbered number verdict = decimal number ++ (codes " " ++ verdict_text verdict)

-- The line of a packet: the judgement and the name of its first policy line.
abbrev pub packet_line : List LineParts → TracedPacket → List ℕ
packet_line lines packet =
    let verdict = verdict_of packet.direction (view_of packet.direction packet.packet) lines in
    numbered packet.number (record { name = name_at lines verdict.line; judgement = verdict.judgement }) ++ codes "\n"

-- What a trace line of that number asks for, before the others: a packet has its line, nothing is passed over, and
-- another event is refused.
abbrev pub by_event : List LineParts → ℕ → Option TraceEvent → Answer JudgeEnd → Answer JudgeEnd
by_event lines number None others = others
by_event lines number (Some (Pkt direction packet)) others =
    with_line (packet_line lines (traced number direction packet)) others
by_event lines number (Some _) others = ending (JudgeEnd.TraceFault number TraceFault.OnlyPackets)

-- A trace line of that number before the others, where its text is allowed.
abbrev pub by_text : List LineParts → ℕ → Result (Option TraceEvent) EventFault → Answer JudgeEnd → Answer JudgeEnd
by_text lines number (Err fault) others = ending (JudgeEnd.TraceFault number (TraceFault.Text fault))
by_text lines number (Ok event) others = by_event lines number event others

-- Line by line, up to the first that is refused.
abbrev pub trace_answer : List LineParts → ℕ → List (Result (Option TraceEvent) EventFault) → Answer JudgeEnd
trace_answer lines number [] = ending JudgeEnd.Done
trace_answer lines number (event ∷ more) = by_text lines number event (trace_answer lines (number + 1) more)

-- The answer by some lines and a trace.
abbrev pub by_trace : List LineParts → List ℕ → Option (Answer JudgeEnd)
by_trace lines trace = Some (trace_answer lines 1 (events_of trace))

-- The answer by some lines, which come before the trace.
abbrev pub by_lines : (List ℕ → Option (List ℕ)) → FileWord → List LineParts → Option (Answer JudgeEnd)
by_lines told trace lines = with_file told trace most_trace (by_trace lines)

-- The answer of the command; a file that isn't told leaves it open.
abbrev pub judge_answer : (List ℕ → Option (List ℕ)) → Judge → Option (Answer JudgeEnd)
judge_answer told command = with_policy told command.policy (by_lines told command.trace)
