use Rattle.std.proofs.Common.{◌≡◌, ℕ, List, Option, ◌+◌, ◌≤◌, length}
use Rattle.spd_lanes.specs.Machine.{Machine}
use Rattle.trace_text.specs.Trace.{events_of}
use Rattle.audit_frame.specs.Answer.{IsSent}
use Rattle.cmd_replay.specs.Replay.{trace_answer}
use Rattle.cmd_replay.proofs.tracing.replay_trace.Given as goal

-- The lines before the rest were replayed and written, and counted by the number.
pub record Progress (word : ℕ) (begun m : Machine) (trace rest : List ℕ) (number : ℕ) (before now : Option (List ℕ)) : Type 0 where
  pub sent : IsSent (trace_answer word 1 (events_of trace) begun) (trace_answer word number (events_of rest) m) before now
  pub counted : number + length rest ≤ length trace + 1

abbrev pub invariant-loop-rest : goal.invariant-loop-rest
invariant-loop-rest g l = record {
  progress : Progress l.word l.initial.shared l.shared l.trace l.rest l.line (g.O.Sink.told l.initial.out) (g.O.Sink.told l.out);
  faults : g.O.Sink.faults l.out ≡ g.O.Sink.faults l.initial.out;
}

abbrev pub decreases-loop-rest : goal.decreases-loop-rest
decreases-loop-rest g l = length l.rest
