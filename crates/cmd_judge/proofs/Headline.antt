-- An answer that is done has one line for each packet.
use Rattle.std.proofs.Common.{◌≡◌, ℕ, ◌+◌, List, [], ◌∷◌, get_or, map, Option, Some, None, Result, Ok, Err, refl, sym, ap, arith}
use Rattle.std.specs.Prelude.{All}
use Rattle.sel_box.specs.declared.packet.Direction.{Direction}
use Rattle.sel_box.specs.Point.{PointFields, view_of}
use Rattle.spd_line.specs.declared.line.LineParts.{LineParts}
use Rattle.spd_line.specs.First.{first_place}
use Rattle.trace_text.specs.declared.fault.EventFault.{EventFault}
use Rattle.trace_text.specs.Event.{TraceEvent, Pkt, Take, Search, Fill, Insert, Delete, Move}
use Rattle.trace_text.specs.Trace.{events_of}
use Rattle.audit_frame.specs.Ends.{Ends}
use Rattle.audit_frame.proofs.Done.{Ends-content, Ends-lines}
use Rattle.cmd_judge.specs.declared.command.Judge.{Judge}
use Rattle.cmd_judge.specs.declared.command.JudgeEnd.{JudgeEnd}
use Rattle.cmd_judge.specs.Headline.{IsFirst, IsJudged, IsTraceJudged, packets_from}
use Rattle.cmd_judge.specs.Judge.{by_lines, by_trace, judge_answer, most_trace, packet_line, trace_answer, traced, TracedPacket}

-- An answer to a trace that is done has the lines of its packets.
done_lines : (lines : List LineParts) (number : ℕ) (events : List (Result (Option TraceEvent) EventFault))
    → (trace_answer lines number events).ended ≡ Ok JudgeEnd.Done
    → (trace_answer lines number events).lines ≡ map (packet_line lines) (packets_from number events)
done_lines lines number [] done = refl
done_lines lines number (Err fault ∷ more) done = grind (arith, done)
done_lines lines number (Ok None ∷ more) done = done_lines lines (number + 1) more done
done_lines lines number (Ok (Some (Pkt direction packet)) ∷ more) done =
    ap (λ (rest : List (List ℕ)). packet_line lines (traced number direction packet) ∷ rest) (done_lines lines (number + 1) more done)
done_lines lines number (Ok (Some (Take lane direction packet)) ∷ more) done = grind (arith, done)
done_lines lines number (Ok (Some (Search lane)) ∷ more) done = grind (arith, done)
done_lines lines number (Ok (Some (Fill lane)) ∷ more) done = grind (arith, done)
done_lines lines number (Ok (Some (Insert place table)) ∷ more) done = grind (arith, done)
done_lines lines number (Ok (Some (Delete name)) ∷ more) done = grind (arith, done)
done_lines lines number (Ok (Some (Move name place)) ∷ more) done = grind (arith, done)

-- What the law of the first line gives.
abbrev pub FirstLines : Type 0
FirstLines = (d : Direction) (x : PointFields) (lines : List LineParts) → IsFirst d x lines (first_place d x lines)

-- The line of each packet is judged by its first line.
all_judged : FirstLines → (lines : List LineParts) (packets : List TracedPacket)
    → All (λ asked. IsJudged lines asked (packet_line lines asked)) packets
all_judged first lines packets = λ k d within.
    let asked = get_or packets k d in
    record {
      place = first_place asked.direction (view_of asked.direction asked.packet) lines;
      first = first asked.direction (view_of asked.direction asked.packet) lines;
      text = refl;
    }

-- So a run that is done has judged each packet of its trace.
pub judged_to_its_end : FirstLines → (told : List ℕ → Option (List ℕ)) (command : Judge) (policy trace : List ℕ) (before now : Option (List ℕ))
    → told command.policy.name ≡ Some policy → told command.trace.name ≡ Some trace
    → Ends (judge_answer told command) before now (Ok JudgeEnd.Done) → IsTraceJudged policy trace before now
judged_to_its_end first told command policy trace before now tells_policy tells_trace ends =
    let found = Ends-lines told command.policy policy (by_lines told command.trace) before now JudgeEnd.Done tells_policy ends in
    let done = Ends-content told command.trace most_trace trace (by_trace found.lines) before now JudgeEnd.Done tells_trace found.ends in
    let written = done_lines found.lines 1 (events_of trace) (sym done.ended_is) in
    record {
      lines = found.lines;
      policy_is = found.policy;
      judged = all_judged first found.lines (packets_from 1 (events_of trace));
      written = rw written at done.all_lines;
    }
