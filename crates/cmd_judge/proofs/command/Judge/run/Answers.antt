use Rattle.std.proofs.Common.{refl, arith}
use Rattle.std.proofs.lemmas.Result.{err_from_is_err_and}
use Rattle.audit_frame.specs.Causes.{reads}
use Rattle.audit_frame.proofs.Runs.{Runs-policy, Runs-unloaded}
use Rattle.cmd_judge.specs.Judge.{by_lines, by_trace, judge_files, most_trace}
use Rattle.cmd_judge.proofs.command.Judge.run.Goals as goal

pub returns-in_err-trace : goal.returns-in_err-trace
returns-in_err-trace g c =
    let p = err_from_is_err_and c.from_residual-in_err-trace.result c.from_residual-in_err-trace.ensures.1 in
    let command = c.args.self.now in
    let told = g.F.Files.told c.args.files.now in
    let refused = rw c.load_policy.ensures.told at c.in_err-trace.ensures.refused in
    rw (p.1, p.2)
    (Runs-policy c.in_ok-lines.lines (by_lines told command.trace) (judge_files command) told command.policy _
    (reads (g.F.Files.faults c.load_policy.new.files) (g.F.Files.taken c.load_policy.new.files) (g.F.Files.end c.load_policy.new.files)) _ _ _ _ _ _
    c.in_ok-lines.ensures.within c.in_ok-lines.ensures.lines c.in_ok-lines.ensures.faults c.in_ok-lines.ensures.taken
    (Runs-unloaded (by_trace c.in_ok-lines.lines) (judge_files command) told command.trace most_trace _ _ _ _ _ (1, omega arith, refl) refused))
