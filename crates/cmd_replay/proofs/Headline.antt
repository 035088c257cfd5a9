-- An answer that is done has one line for each event, and its machine is the one after them all.
use Rattle.std.proofs.Common.{◌≡◌, ℕ, ◌+◌, List, [], ◌∷◌, ◌++◌, map, Option, Some, None, Result, Ok, Err, refl, sym, ap, subst, arith, append_assoc}
use Rattle.std.proofs.lemmas.List.{append-nil}
use Rattle.sel_box.specs.declared.packet.Direction.{Direction}
use Rattle.sel_box.specs.Packet.{PacketFields}
use Rattle.sel_box.specs.Point.{view_of}
use Rattle.spd_groups.specs.Groups.{answer_of}
use Rattle.spd_lanes.specs.declared.edit.Edit.{Edit}
use Rattle.spd_lanes.specs.declared.fault.EditFault.{EditFault}
use Rattle.spd_lanes.specs.declared.fault.LaneFault.{LaneFault}
use Rattle.spd_lanes.specs.declared.lane.Filled.{Filled}
use Rattle.spd_lanes.specs.Machine.{Machine, asked, edited, filled, lane_at, machine, searched, taken}
use Rattle.spd_lanes.specs.Policy.{over}
use Rattle.spd_lanes.specs.Run.{Event, IsFilledAsSearched, Notes, Ran, Refusal as Refused, Reply, no_notes, noted, of_edit, of_lane, run, step, with_step}
use Rattle.spd_line.specs.declared.judgement.Answer.{Answer as Verdict}
use Rattle.spd_line.specs.declared.line.LineParts.{LineParts}
use Rattle.trace_text.specs.declared.fault.EventFault.{EventFault}
use Rattle.trace_text.specs.Event.{TraceEvent}
use Rattle.trace_text.specs.Trace.{events_of}
use Rattle.audit_frame.specs.declared.refusal.Refusal.{Refusal}
use Rattle.audit_frame.specs.Answer.{Answer, refusing}
use Rattle.audit_frame.specs.Ends.{Ends, IsAnswer}
use Rattle.audit_frame.proofs.Done.{Ends-content, Ends-lines}
use Rattle.cmd_replay.specs.declared.command.ReplayEnd.{ReplayEnd}
use Rattle.cmd_replay.specs.declared.fault.TraceFault.{TraceFault}
use Rattle.cmd_replay.specs.declared.stop.Stop.{Stop}
use Rattle.cmd_replay.specs.Headline.{AreReplied, HasRun, IsServedAs, IsTraceReplayed, TracedEvent, before_others, begun_with, traced, traced_from}
use Rattle.cmd_replay.specs.Replay.{asked_event, by_lines, by_reply, by_trace, replay_answer, replied, stepped, trace_answer, unless_passed}
use Rattle.cmd_replay.specs.Stop.{ended_at, event_stop}
use Rattle.cmd_replay.specs.Words.{most_trace, ReplayWords}

-- What the law of the shared machine gives of runs from where it begins.
pub record Served (begun : Machine) : Type 0 where
  pub fill : (events : List Event) (place : ℕ) (reply : Filled) (after : Machine)
      → filled place (run events begun no_notes).machine ≡ Ok (reply, after)
      → IsFilledAsSearched (run events begun no_notes).notes place (lane_at place (run events begun no_notes).machine) reply
  pub hit : (place : ℕ) (d : Direction) (p : PacketFields) (m after : Machine) (answer : Verdict)
      → taken place d p m ≡ Ok (Some answer, after) → answer ≡ answer_of d (view_of d p) m.lines
  pub at_once : (d : Direction) (p : PacketFields) (m : Machine) → (asked d p m).0.answer ≡ answer_of d (view_of d p) m.lines

-- What it gives from every beginning.
pub record AreServed : Type 0 where
  pub each : (lines : List LineParts) (limit capacity : ℕ) → Served (machine lines limit capacity)

-- The run came to the machine, and none of its events was refused.
record IsRan (ran : Ran) (after : Machine) : Type 0 where
  pub machine_is : ran.machine ≡ after
  pub unrefused : ran.refused ≡ None

-- One more event behind a run without a refusal.
run-more : (earlier : List Event) (event : Event) (m : Machine) (n : Notes) (reply : Reply) (after : Machine)
    → (run earlier m n).refused ≡ None → step event (run earlier m n).machine ≡ Ok (reply, after) → IsRan (run (earlier ++ event ∷ []) m n) after
run-more [] event m n reply after none is = record { machine_is = rw is refl; unrefused = rw is refl }
run-more (first ∷ earlier) event m n reply after none is =
    go (step first m) (λ between. run-more earlier event between (noted first m n) reply after) none is
  where
    go : (r : Result (Reply × Machine) Refused)
        → ((between : Machine) → (run earlier between (noted first m n)).refused ≡ None
        → step event (run earlier between (noted first m n)).machine ≡ Ok (reply, after)
        → IsRan (run (earlier ++ event ∷ []) between (noted first m n)) after)
        → (with_step r m n (λ between. run earlier between (noted first m n))).refused ≡ None
        → step event (with_step r m n (λ between. run earlier between (noted first m n))).machine ≡ Ok (reply, after)
        → IsRan (with_step r m n (λ between. run (earlier ++ event ∷ []) between (noted first m n))) after
    go (Ok r) more none is = let rest = more r.1 none is in record { machine_is = rest.machine_is; unrefused = rest.unrefused }
    go (Err refused) more none is = absurd (grind (arith, none))

-- A stop isn't the end of the trace.
unended : (word number : ℕ) (stop : Stop) (end : Machine) → ended_at word number stop ≡ Ok (ReplayEnd.Done end) → ⊥
unended word number (Stop.Fault fault) end done = grind (arith, done)
unended word number (Stop.Limit direction line) end done = grind (arith, done)
unended word number (Stop.Unwritten refused) end done = grind (arith, done)

-- The machine that an end hands out.
abbrev machine_of : Machine → Result ReplayEnd Refusal → Machine
machine_of default (Ok (ReplayEnd.Done m)) = m
machine_of default (Ok (ReplayEnd.TraceFault line fault)) = default
machine_of default (Err refusal) = default

-- What is said of a reply, where there is one.
abbrev IsServedStep : Machine → Notes → Event → Result (Reply × Machine) Refused → Type 0
IsServedStep m n event (Ok r) = IsServedAs m n event r.0
IsServedStep m n event (Err refused) = Unit {0}

searched-served : (m : Machine) (n : Notes) (place : ℕ) (r : Result (Verdict × Machine) LaneFault)
    → IsServedStep m n (Event.Search place) (of_lane Reply.Searched r)
searched-served m n place (Ok r) = tt
searched-served m n place (Err fault) = tt

edited-served : (m : Machine) (n : Notes) (change : Edit) (r : Result Machine EditFault) → IsServedStep m n (Event.Change change) (of_edit r)
edited-served m n change (Ok after) = tt
edited-served m n change (Err fault) = tt

hit-served : (begun : Machine) → Served begun → (m : Machine) (n : Notes) (place : ℕ) (d : Direction) (p : PacketFields) (answer : Option Verdict)
    (after : Machine) → taken place d p m ≡ Ok (answer, after) → IsServedAs m n (Event.Take place d p) (Reply.Taken answer)
hit-served begun served m n place d p None after is = tt
hit-served begun served m n place d p (Some answer) after is = served.hit place d p m after answer is

taken-served : (begun : Machine) → Served begun → (m : Machine) (n : Notes) (place : ℕ) (d : Direction) (p : PacketFields)
    (r : Result (Option Verdict × Machine) LaneFault) → taken place d p m ≡ r → IsServedStep m n (Event.Take place d p) (of_lane Reply.Taken r)
taken-served begun served m n place d p (Ok r) is = hit-served begun served m n place d p r.0 r.1 is
taken-served begun served m n place d p (Err fault) is = tt

filled-served : (begun : Machine) → Served begun → (earlier : List Event) (place : ℕ) (r : Result (Filled × Machine) LaneFault)
    → filled place (run earlier begun no_notes).machine ≡ r
    → IsServedStep (run earlier begun no_notes).machine (run earlier begun no_notes).notes (Event.Fill place) (of_lane Reply.Filling r)
filled-served begun served earlier place (Ok r) is = served.fill earlier place r.0 r.1 is
filled-served begun served earlier place (Err fault) is = tt

-- Behind a run each event is served so.
step-served : (begun : Machine) → Served begun → (earlier : List Event) (event : Event)
    → IsServedStep (run earlier begun no_notes).machine (run earlier begun no_notes).notes event (step event (run earlier begun no_notes).machine)
step-served begun served earlier (Event.AtOnce d p) = served.at_once d p (run earlier begun no_notes).machine
step-served begun served earlier (Event.Take place d p) =
    taken-served begun served (run earlier begun no_notes).machine (run earlier begun no_notes).notes place d p
    (taken place d p (run earlier begun no_notes).machine) refl
step-served begun served earlier (Event.Search place) =
    searched-served (run earlier begun no_notes).machine (run earlier begun no_notes).notes place (searched place (run earlier begun no_notes).machine)
step-served begun served earlier (Event.Fill place) =
    filled-served begun served earlier place (filled place (run earlier begun no_notes).machine) refl
step-served begun served earlier (Event.Change change) =
    edited-served (run earlier begun no_notes).machine (run earlier begun no_notes).notes change (edited change (run earlier begun no_notes).machine)

-- Only the events.
abbrev events_in : List TracedEvent → List Event
events_in asked = map (λ (one : TracedEvent). one.event) asked

-- The lines are those of the events, behind earlier ones, and the machine is the one after them all.
record ComesTo (begun : Machine) (earlier : List Event) (events : List TracedEvent) (output : List (List ℕ)) (end : Machine) : Type 0 where
  pub each : AreReplied begun earlier events output
  pub end_is : end ≡ (run (earlier ++ events_in events) begun no_notes).machine

-- What the answer to the other lines comes to, behind any earlier events.
abbrev RestComes : Machine → (Machine → Answer ReplayEnd) → List TracedEvent → Machine → Type 0
RestComes begun others events end =
    (earlier : List Event) → (run earlier begun no_notes).refused ≡ None
    → (others (run earlier begun no_notes).machine).ended ≡ Ok (ReplayEnd.Done end)
    → ComesTo begun earlier events (others (run earlier begun no_notes).machine).lines end

by_step : (begun : Machine) → Served begun → (word number : ℕ) (others : Machine → Answer ReplayEnd) (events : List TracedEvent) (end : Machine)
    → RestComes begun others events end → (earlier : List Event) → (run earlier begun no_notes).refused ≡ None
    → (event : Event) (r : Result (Reply × Machine) Refused) → step event (run earlier begun no_notes).machine ≡ r
    → (by_reply word number (replied r) others).ended ≡ Ok (ReplayEnd.Done end)
    → ComesTo begun earlier (record { number = number; event = event } ∷ events) (by_reply word number (replied r) others).lines end
by_step begun served word number others events end rest earlier none event (Err refused) is done =
    absurd (unended word number (event_stop refused) end done)
by_step begun served word number others events end rest earlier none event (Ok r) is done =
    let on = run-more earlier event begun no_notes r.0 r.1 none is in
    let behind = rest (earlier ++ event ∷ []) on.unrefused
    (subst (λ (m : Machine). (others m).ended ≡ Ok (ReplayEnd.Done end)) (sym on.machine_is) done) in
    record {
      each = (
        record {
          reply = r.0;
          after = r.1;
          stepped = is;
          text = refl;
          served = subst (IsServedStep (run earlier begun no_notes).machine (run earlier begun no_notes).notes event) is (step-served begun served earlier event);
        },
        subst (λ (m : Machine). AreReplied begun (earlier ++ event ∷ []) events (others m).lines) on.machine_is behind.each,
      );
      end_is = subst (λ (all : List Event). end ≡ (run all begun no_notes).machine) (append_assoc earlier (event ∷ []) (events_in events)) behind.end_is;
    }

by_asked : (begun : Machine) → Served begun → (word number : ℕ) (others : Machine → Answer ReplayEnd) (events : List TracedEvent) (end : Machine)
    → RestComes begun others events end → (earlier : List Event) → (run earlier begun no_notes).refused ≡ None
    → (asked : Result Event TraceFault)
    → (by_reply word number (stepped asked (run earlier begun no_notes).machine) others).ended ≡ Ok (ReplayEnd.Done end)
    → ComesTo begun earlier (before_others number asked events)
    (by_reply word number (stepped asked (run earlier begun no_notes).machine) others).lines end
by_asked begun served word number others events end rest earlier none (Err fault) done = absurd (unended word number (Stop.Fault fault) end done)
by_asked begun served word number others events end rest earlier none (Ok event) done =
    by_step begun served word number others events end rest earlier none event (step event (run earlier begun no_notes).machine) refl done

comes_to : (begun : Machine) → Served begun → (word number : ℕ) (lines : List (Result (Option TraceEvent) EventFault)) (end : Machine)
    → RestComes begun (trace_answer word number lines) (traced_from number lines) end
comes_to begun served word number [] end earlier none done = record {
  each = tt;
  end_is = rw append-nil (sym (ap (machine_of end) done));
}
comes_to begun served word number (Err fault ∷ more) end earlier none done =
    absurd (unended word number (Stop.Fault (TraceFault.Text fault)) end done)
comes_to begun served word number (Ok None ∷ more) end earlier none done = comes_to begun served word (number + 1) more end earlier none done
comes_to begun served word number (Ok (Some event) ∷ more) end earlier none done =
    by_asked begun served word number (trace_answer word (number + 1) more) (traced_from (number + 1) more) end
    (comes_to begun served word (number + 1) more end) earlier none (asked_event event) done

-- The limit was not passed.
under : {A : Type 0} (word : ℕ) (found : Option (Direction × ℕ)) (next : Option (Answer A)) (before now : Option (List ℕ)) (end : A)
    → Ends (unless_passed word found next) before now (Ok end) → Ends next before now (Ok end)
under word None next before now end ends = ends
under word (Some passed) next before now end ends = absurd (refuses ends)
  where
    refuses : IsAnswer (refusing (Refusal.EntryLimit word passed.0 passed.1 None)) before now (Ok end) → ⊥
    refuses is = grind (arith, is.ended_is)

-- What a run that is done has written, and the machine that it hands out.
pub record IsDone (command : ReplayWords) (policy trace : List ℕ) (before now : Option (List ℕ)) (end : Machine) : Type 0 where
  pub lines : IsTraceReplayed command policy trace before now
  pub machine : HasRun command policy trace end

pub replayed_to_its_end : AreServed → (told : List ℕ → Option (List ℕ)) (command : ReplayWords) (policy trace : List ℕ) (before now : Option (List ℕ)) (end : Machine)
    → told command.policy.name ≡ Some policy → told command.trace.name ≡ Some trace
    → Ends (replay_answer told command) before now (Ok (ReplayEnd.Done end)) → IsDone command policy trace before now end
replayed_to_its_end served told command policy trace before now end tells_policy tells_trace ends =
    let found = Ends-lines told command.policy policy (by_lines told command) before now (ReplayEnd.Done end) tells_policy ends in
    let within = under command.policy.word (over command.limit found.lines) _ before now (ReplayEnd.Done end) found.ends in
    let done = Ends-content told command.trace most_trace trace (by_trace command found.lines) before now (ReplayEnd.Done end) tells_trace within in
    let begun = machine found.lines command.limit command.capacity in
    let all = comes_to begun (served.each found.lines command.limit command.capacity) command.policy.word 1 (events_of trace) end [] refl (sym done.ended_is) in
    record {
      lines = record {
        lines = found.lines;
        policy_is = found.policy;
        output = _;
        replied = all.each;
        written = done.all_lines;
      };
      machine = record { lines = found.lines; policy_is = found.policy; after = all.end_is };
    }
