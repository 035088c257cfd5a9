-- What `judge` writes, said of packets, without a loop.
use Rattle.std.specs.Prelude.{◌≡◌, ℕ, ◌+◌, ◌++◌, ◌<◌, ◌≤◌, true, false, All, codes, length, map, List, [], ◌∷◌, Option, Some, Result, Ok}
use Rattle.pair_io.specs.Gains.{Gains}
use Rattle.sel_box.specs.declared.packet.Direction.{Direction}
use Rattle.sel_box.specs.Point.{PointFields, view_of}
use Rattle.spd_file.specs.Policy.{policy_meaning}
use Rattle.spd_line.specs.declared.line.LineParts.{LineParts}
use Rattle.spd_line.specs.First.{judged_at, line_at, name_at}
use Rattle.spd_line.specs.Selects.{selects}
use Rattle.trace_text.specs.declared.fault.EventFault.{EventFault}
use Rattle.trace_text.specs.Event.{TraceEvent, Pkt}
use Rattle.trace_text.specs.Trace.{events_of}
use Rattle.audit_frame.specs.Answer.{text_of}
use Rattle.cmd_judge.specs.Judge.{numbered, packet_line, traced, TracedPacket}

-- The packets of a trace, in order, with the numbers of their lines from this one on.
abbrev pub packets_from : ℕ → List (Result (Option TraceEvent) EventFault) → List TracedPacket
packets_from number [] = []
packets_from number (Ok (Some (Pkt direction packet)) ∷ more) =
    traced number direction packet ∷ packets_from (number + 1) more
packets_from number (_ ∷ more) = packets_from (number + 1) more

-- The place is that of the first line that selects the point, the one behind the last where none does.
pub record IsFirst (d : Direction) (x : PointFields) (lines : List LineParts) (place : ℕ) : Type 0 where
  pub low : 1 ≤ place
  pub high : place ≤ length lines + 1
  pub selects_it : (line : LineParts) → line_at lines place ≡ Some line → selects d x line ≡ true
  pub least : (before : ℕ) (line : LineParts) → before < place → line_at lines before ≡ Some line → selects d x line ≡ false

-- The packet's output line is its number with the judgement and the name of the first policy line that selects the
-- packet's view in its direction.
pub record IsJudged (lines : List LineParts) (asked : TracedPacket) (line : List ℕ) : Type 0 where
  pub place : ℕ
  pub first : IsFirst asked.direction (view_of asked.direction asked.packet) lines place
  pub text : line ≡ numbered asked.number (record {
    name = name_at lines place;
    judgement = judged_at asked.direction (view_of asked.direction asked.packet) (line_at lines place);
  }) ++ codes "\n"

-- The text gained one line for each packet of the trace, in order, and each line is judged so by the policy.
pub record IsTraceJudged (policy trace : List ℕ) (before now : Option (List ℕ)) : Type 0 where
  pub lines : List LineParts
  pub policy_is : policy_meaning policy ≡ Ok lines
  pub judged : All (λ asked. IsJudged lines asked (packet_line lines asked)) (packets_from 1 (events_of trace))
  pub written : Gains before now (text_of (map (packet_line lines) (packets_from 1 (events_of trace))))
