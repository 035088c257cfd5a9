use Rattle.std.proofs.lemmas.Result.{err_from_is_err_and}
use Rattle.audit_frame.specs.Causes.{reads}
use Rattle.audit_frame.proofs.Runs.{Runs-written}
use Rattle.cmd_audit.specs.Audit.{pair_answer}
use Rattle.cmd_audit.proofs.Stages.{Runs-cut_b, Runs-uncut_a, Runs-uncut_b, Runs-unread_b}
use Rattle.cmd_audit.proofs.command.Audit.run.Goals as goal

pub returns-in_err-outbound : goal.returns-in_err-outbound
returns-in_err-outbound g c =
    let p = err_from_is_err_and c.from_residual-in_err-outbound.result c.from_residual-in_err-outbound.ensures.1 in
    let a = c.in_ok-a.ensures in
    rw (p.1, p.2)
    (Runs-uncut_a c.args.self.now (g.F.Files.told c.args.files.now) c.in_ok-a.a _ _ a.within a.lines a.faults a.taken _ _ _ _
    c.word.ensures c.in_err-outbound.ensures.refused)

pub returns-in_err-b : goal.returns-in_err-b
returns-in_err-b g c =
    let p = err_from_is_err_and c.from_residual-in_err-b.result c.from_residual-in_err-b.ensures.1 in
    let a = c.in_ok-a.ensures in
    rw (p.1, p.2)
    (Runs-unread_b c.args.self.now (g.F.Files.told c.args.files.now) c.in_ok-a.a _
    (reads (g.F.Files.faults c.load_policy.new.files) (g.F.Files.taken c.load_policy.new.files) (g.F.Files.end c.load_policy.new.files))
    a.within a.lines a.faults a.taken c.in_ok-outbound.ensures.within _ _ _ _
    (rw c.load_policy.ensures.told at c.in_err-b.ensures.refused))

pub returns-in_err-inbound : goal.returns-in_err-inbound
returns-in_err-inbound g c =
    let p = err_from_is_err_and c.from_residual-in_err-inbound.result c.from_residual-in_err-inbound.ensures.1 in
    let a = c.in_ok-a.ensures in
    let b = c.in_ok-b.ensures in
    rw (p.1, p.2)
    (Runs-uncut_b c.args.self.now (g.F.Files.told c.args.files.now) c.in_ok-a.a _
    (reads (g.F.Files.faults c.load_policy.new.files) (g.F.Files.taken c.load_policy.new.files) (g.F.Files.end c.load_policy.new.files))
    a.within a.lines a.faults a.taken c.in_ok-outbound.ensures.within c.in_ok-b.b _
    (rw c.load_policy.ensures.told at b.within) (rw c.load_policy.ensures.told at b.lines) b.faults b.taken _ _ _ _
    c.word-2.ensures c.in_err-inbound.ensures.refused)

pub returns : goal.returns
returns g c =
    let a = c.in_ok-a.ensures in
    let b = c.in_ok-b.ensures in
    Runs-cut_b c.args.self.now (g.F.Files.told c.args.files.now) c.in_ok-a.a _
    (reads (g.F.Files.faults c.load_policy.new.files) (g.F.Files.taken c.load_policy.new.files) (g.F.Files.end c.load_policy.new.files))
    a.within a.lines a.faults a.taken c.in_ok-outbound.ensures.within c.in_ok-b.b _
    (rw c.load_policy.ensures.told at b.within) (rw c.load_policy.ensures.told at b.lines) b.faults b.taken _ _ _ _ _
    c.in_ok-inbound.ensures.within
    (Runs-written (pair_answer c.in_ok-a.a c.in_ok-b.b) _ _ _ _ _ _ _ _ _ c.in_ok-end.ensures.writes c.in_ok-end.ensures.no_fault)
