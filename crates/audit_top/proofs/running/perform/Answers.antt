use Rattle.audit_frame.proofs.Onward.{Runs-stuck}
use Rattle.audit_top.proofs.running.perform.Goals as goal

pub returns-in-Err-clause-runs : goal.returns-in-Err-clause-runs
returns-in-Err-clause-runs g c =
    rw (← c.in-Some.ensures, c.flush.ensures.told)
    (Runs-stuck _ _ _ _ _ _ _ _ _ _ _ c.in-Err.ensures.cause c.run-outcome.ensures.runs)
