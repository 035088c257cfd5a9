use Rattle.std.proofs.Common.{refl, ◌∙◌}
use Rattle.std.proofs.lemmas.Result.{err_from_is_err_and}
use Rattle.audit_frame.proofs.Runs.{Runs-unwritten, Runs-within, Runs-written}
use Rattle.cmd_decorrelate.proofs.Stages.{Runs-entries, Runs-lines, Runs-over_limit}
use Rattle.cmd_decorrelate.proofs.command.Decorrelate.run.Goals as goal

pub returns-in_err-inbound : goal.returns-in_err-inbound
returns-in_err-inbound g c =
    let p = err_from_is_err_and c.from_residual-in_err-inbound.result c.from_residual-in_err-inbound.ensures.1 in
    let lines = c.in_ok-lines.ensures in
    rw (p.1, p.2)
    (Runs-lines c.args.self.now c.in_ok-lines.lines (g.F.Files.told c.args.files.now) _ _ _ _ _ _ _ lines.within lines.lines lines.faults lines.taken
    (Runs-within _ _ _ _ _ _ _ _ _ _ _ _ _ _ c.in_ok-outbound.ensures.within
    (Runs-over_limit c.args.self.now _ c.in_ok-lines.lines _ _ _ _ _ _ _ _ c.word-word.ensures c.in_err-inbound.ensures.refused)))

pub returns-in_err-write_views : goal.returns-in_err-write_views
returns-in_err-write_views g c =
    let p = err_from_is_err_and c.from_residual-in_err-write_views.result c.from_residual-in_err-write_views.ensures.1 in
    let lines = c.in_ok-lines.ensures in
    rw (p.1, p.2)
    (Runs-lines c.args.self.now c.in_ok-lines.lines (g.F.Files.told c.args.files.now) _ _ _ _ _ _ _ lines.within lines.lines lines.faults lines.taken
    (Runs-entries _ _ _ c.as_slice.result.now c.as_slice-2.result.now _ _ _ _ _ _ _ _ _ c.in_ok-outbound.ensures.within c.in_ok-inbound.ensures.within
    (c.as_slice.ensures ∙ c.in_ok-outbound.ensures.entries) (c.as_slice-2.ensures ∙ c.in_ok-inbound.ensures.entries)
    (Runs-unwritten _ _ _ _ _ _ _ _ _ _ c.in_err-write_views.ensures.causes c.in_err-write_views.ensures.prefix)))

pub returns : goal.returns
returns g c =
    let lines = c.in_ok-lines.ensures in
    Runs-lines c.args.self.now c.in_ok-lines.lines (g.F.Files.told c.args.files.now) _ _ _ _ _ _ _ lines.within lines.lines lines.faults lines.taken
    (Runs-entries _ _ _ c.as_slice.result.now c.as_slice-2.result.now _ _ _ _ _ _ _ _ _ c.in_ok-outbound.ensures.within c.in_ok-inbound.ensures.within
    (c.as_slice.ensures ∙ c.in_ok-outbound.ensures.entries) (c.as_slice-2.ensures ∙ c.in_ok-inbound.ensures.entries)
    (Runs-written _ _ _ _ _ _ _ _ _ _ (record { ended_is = refl; all_lines = c.in_ok-write_views.ensures.written }) c.in_ok-write_views.ensures.no_fault))
