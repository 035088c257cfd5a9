use Rattle.std.proofs.Common.{◌≡◌, ◌∙◌, ℕ, ◌+◌, ◌-◌, ◌<◌, ◌≤◌, List, drop, length, take, arith}
use Rattle.std.proofs.lemmas.List.{length-drop}
use Rattle.std.proofs.Math.Seq.{take-length}
use Rattle.audit_frame.proofs.Lines.{IsSent-then}
use Rattle.cmd_replay.proofs.Steps.{EndsBy-sent}
use Rattle.cmd_replay.proofs.tracing.replay_trace.Goals as goal

pub returns-in-Err-clause-ends : goal.returns-in-Err-clause-ends
returns-in-Err-clause-ends g c =
    rw c.at.ensures (EndsBy-sent _ _ c.args.word c.loop-rest.line c.in-Err.stop _ _ _
    c.loop-rest.invariant.progress.sent (c.in-Err.ensures.stopped c.args.word))

-- A range that runs to the end is all that is left.
all_left : (text : List ℕ) (k : ℕ) → take (length text - k) (drop k text) ≡ drop k text
all_left text k = rw (← length-drop, take-length)

-- A line less is left, and one more is counted.
less_left : (number left taken all : ℕ) → 0 < taken → taken ≤ left → number + left ≤ all + 1 → number + 1 + (left - taken) ≤ all + 1
less_left number left taken all some within counted = omega arith

pub loop-rest-preserved : goal.loop-rest-preserved
loop-rest-preserved g c =
    let left = all_left c.loop-rest.rest.now c.in-Ok.taken in
    let replayed = c.in-Ok.ensures.replayed in
    record {
      progress = record {
        sent = rw left (IsSent-then _ _ _ _ _ _ c.loop-rest.invariant.progress.sent (replayed.sent c.args.word));
        counted = rw (left, length-drop) (less_left _ _ _ _ replayed.some replayed.fits c.loop-rest.invariant.progress.counted);
      };
      faults = c.in-Ok.ensures.no_fault ∙ c.loop-rest.invariant.faults;
    }
