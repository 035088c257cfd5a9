use Rattle.std.proofs.Common.{◌≡◌, ◌∙◌, ℕ, ◌+◌, ◌-◌, ◌<◌, ◌≤◌, List, drop, length, take, arith}
use Rattle.std.proofs.lemmas.List.{length-drop}
use Rattle.std.proofs.lemmas.Result.{err_from_is_err_and}
use Rattle.std.proofs.Math.Seq.{take-length}
use Rattle.audit_frame.proofs.Lines.{IsSent-prefix, IsSent-then}
use Rattle.cmd_judge.proofs.tracing.judge_lines.Goals as goal

pub returns-in_err-taken-clause-writes : goal.returns-in_err-taken-clause-writes
returns-in_err-taken-clause-writes g c =
    let p = err_from_is_err_and c.from_residual.result c.from_residual.ensures.1 in
    rw p.1 (IsSent-prefix _ _ _ _ _ c.loop-rest.invariant.progress.sent c.in_err-taken.ensures.prefix)

-- A range that runs to the end is all that is left.
all_left : (text : List ℕ) (k : ℕ) → take (length text - k) (drop k text) ≡ drop k text
all_left text k = rw (← length-drop, take-length)

-- A line less is left, and one more is counted.
less_left : (number left taken all : ℕ) → 0 < taken → taken ≤ left → number + left ≤ all + 1 → number + 1 + (left - taken) ≤ all + 1
less_left number left taken all some within counted = omega arith

pub loop-rest-preserved : goal.loop-rest-preserved
loop-rest-preserved g c =
    let left = all_left c.loop-rest.rest.now c.in-Ok.taken in
    let judged = rw c.in-Ok.is at c.in_ok-taken.ensures.judged in
    record {
      progress = record {
        sent = rw left (IsSent-then _ _ _ _ _ _ c.loop-rest.invariant.progress.sent judged.sent);
        counted = rw (left, length-drop) (less_left _ _ _ _ judged.some judged.fits c.loop-rest.invariant.progress.counted);
      };
      faults = c.in_ok-taken.ensures.no_fault ∙ c.loop-rest.invariant.faults;
    }
