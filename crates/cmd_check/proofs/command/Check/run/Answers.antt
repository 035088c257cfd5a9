use Rattle.std.proofs.Common.{refl, arith}
use Rattle.std.proofs.lemmas.Result.{err_from_is_err_and}
use Rattle.audit_frame.specs.Causes.{reads}
use Rattle.audit_frame.proofs.Runs.{Runs-policy, Runs-unloaded, Runs-unread}
use Rattle.cmd_check.specs.Check.{by_certificate, by_lines_a, by_lines_b, check_files}
use Rattle.cmd_check.proofs.command.Check.run.Goals as goal

pub returns-in_err-b : goal.returns-in_err-b
returns-in_err-b g c =
    let p = err_from_is_err_and c.from_residual-in_err-b.result c.from_residual-in_err-b.ensures.1 in
    let command = c.args.self.now in
    let told = g.F.Files.told c.args.files.now in
    let refused = rw c.load_policy.ensures.told at c.in_err-b.ensures.refused in
    rw (p.1, p.2)
    (Runs-policy c.in_ok-a.a (by_lines_a told command) (check_files command) told command.policy_a _
    (reads (g.F.Files.faults c.load_policy.new.files) (g.F.Files.taken c.load_policy.new.files) (g.F.Files.end c.load_policy.new.files)) _ _ _ _ _ _
    c.in_ok-a.ensures.within c.in_ok-a.ensures.lines c.in_ok-a.ensures.faults c.in_ok-a.ensures.taken
    (Runs-unread (by_lines_b told command c.in_ok-a.a) (check_files command) told command.policy_b _ _ _ _ _ (1, omega arith, refl) refused))

pub returns-in_err-certificate : goal.returns-in_err-certificate
returns-in_err-certificate g c =
    let p = err_from_is_err_and c.from_residual-in_err-certificate.result c.from_residual-in_err-certificate.ensures.1 in
    let command = c.args.self.now in
    let told = g.F.Files.told c.args.files.now in
    let b = c.in_ok-b.ensures in
    let within = rw c.load_policy.ensures.told at b.within in
    let lines = rw c.load_policy.ensures.told at b.lines in
    let refused = rw (c.get.ensures.value, c.load_policy-2.ensures.told, c.load_policy.ensures.told) at c.in_err-certificate.ensures.refused in
    rw (p.1, p.2)
    (Runs-policy c.in_ok-a.a (by_lines_a told command) (check_files command) told command.policy_a _
    (reads (g.F.Files.faults c.load_policy.new.files) (g.F.Files.taken c.load_policy.new.files) (g.F.Files.end c.load_policy.new.files)) _ _ _ _ _ _
    c.in_ok-a.ensures.within c.in_ok-a.ensures.lines c.in_ok-a.ensures.faults c.in_ok-a.ensures.taken
    (Runs-policy c.in_ok-b.b (by_lines_b told command c.in_ok-a.a) (check_files command) told command.policy_b _
    (reads (g.F.Files.faults c.load_policy-2.new.files) (g.F.Files.taken c.load_policy-2.new.files) (g.F.Files.end c.load_policy-2.new.files)) _ _ _ _ _ _
    within lines b.faults b.taken
    (Runs-unloaded (by_certificate c.in_ok-a.a c.in_ok-b.b) (check_files command) told command.certificate command.most _ _ _ _ _ (2, omega arith, refl)
    refused)))
