use Rattle.std.proofs.lemmas.Result.{err_from_is_err_and}
use Rattle.audit_frame.specs.Causes.{reads}
use Rattle.audit_frame.proofs.Runs.{Runs-unwritten, Runs-written}
use Rattle.cmd_narrow.specs.Narrow.{proposal_answer}
use Rattle.cmd_narrow.proofs.Stages.{Runs-no_text, Runs-text, Runs-uncut_in, Runs-uncut_out}
use Rattle.cmd_narrow.proofs.command.Narrow.run.Goals as goal

pub returns-in_err-outbound : goal.returns-in_err-outbound
returns-in_err-outbound g c =
    let p = err_from_is_err_and c.from_residual-in_err-outbound.result c.from_residual-in_err-outbound.ensures.1 in
    let lines = c.in_ok-lines.ensures in
    rw (p.1, p.2)
    (Runs-uncut_out c.args.self.now (g.F.Files.told c.args.files.now) c.in_ok-lines.lines _ _ lines.within lines.lines lines.faults lines.taken
    _ _ _ _ c.word-word.ensures c.in_err-outbound.ensures.refused)

pub returns-in_err-inbound : goal.returns-in_err-inbound
returns-in_err-inbound g c =
    let p = err_from_is_err_and c.from_residual-in_err-inbound.result c.from_residual-in_err-inbound.ensures.1 in
    let lines = c.in_ok-lines.ensures in
    rw (p.1, p.2)
    (Runs-uncut_in c.args.self.now (g.F.Files.told c.args.files.now) c.in_ok-lines.lines _ _ lines.within lines.lines lines.faults lines.taken
    c.in_ok-outbound.ensures.within _ _ _ _ c.word-word.ensures c.in_err-inbound.ensures.refused)

pub returns-in_err-text : goal.returns-in_err-text
returns-in_err-text g c =
    let p = err_from_is_err_and c.from_residual-in_err-text.result c.from_residual-in_err-text.ensures.1 in
    let lines = c.in_ok-lines.ensures in
    rw (p.1, p.2)
    (Runs-no_text c.args.self.now (g.F.Files.told c.args.files.now) c.in_ok-lines.lines _
    (reads (g.F.Files.faults c.load_policy.new.files) (g.F.Files.taken c.load_policy.new.files) (g.F.Files.end c.load_policy.new.files))
    lines.within lines.lines lines.faults lines.taken c.in_ok-outbound.ensures.within c.in_ok-inbound.ensures.within _ _ _ _
    (rw c.load_policy.ensures.told at c.in_err-text.ensures.refused))

pub returns-in_err-end : goal.returns-in_err-end
returns-in_err-end g c =
    let p = err_from_is_err_and c.from_residual-in_err-end.result c.from_residual-in_err-end.ensures.1 in
    let lines = c.in_ok-lines.ensures in
    let text = c.in_ok-text.ensures in
    rw (p.1, p.2)
    (Runs-text c.args.self.now (g.F.Files.told c.args.files.now) c.in_ok-lines.lines _
    (reads (g.F.Files.faults c.load_policy.new.files) (g.F.Files.taken c.load_policy.new.files) (g.F.Files.end c.load_policy.new.files))
    lines.within lines.lines lines.faults lines.taken c.in_ok-outbound.ensures.within c.in_ok-inbound.ensures.within c.in_ok-text.text _ _ _ _ _ _
    (rw c.load_policy.ensures.told at text.content) text.within text.faults text.taken
    (Runs-unwritten (proposal_answer c.in_ok-lines.lines c.in_ok-text.text) _ _ _ _ _ _ _ _ _ c.in_err-end.ensures.causes
    (rw c.as_slice-3.ensures at c.in_err-end.ensures.writes)))

pub returns : goal.returns
returns g c =
    let lines = c.in_ok-lines.ensures in
    let text = c.in_ok-text.ensures in
    Runs-text c.args.self.now (g.F.Files.told c.args.files.now) c.in_ok-lines.lines _
    (reads (g.F.Files.faults c.load_policy.new.files) (g.F.Files.taken c.load_policy.new.files) (g.F.Files.end c.load_policy.new.files))
    lines.within lines.lines lines.faults lines.taken c.in_ok-outbound.ensures.within c.in_ok-inbound.ensures.within c.in_ok-text.text _ _ _ _ _ _
    (rw c.load_policy.ensures.told at text.content) text.within text.faults text.taken
    (Runs-written (proposal_answer c.in_ok-lines.lines c.in_ok-text.text) _ _ _ _ _ _ _ _ _
    (rw c.as_slice-3.ensures at c.in_ok-end.ensures.writes) c.in_ok-end.ensures.no_fault)
