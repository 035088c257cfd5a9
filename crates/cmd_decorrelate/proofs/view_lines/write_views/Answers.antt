use Rattle.std.proofs.lemmas.Result.{err_from_is_err_and}
use Rattle.cmd_decorrelate.proofs.Views.{Gains-views, GainsPrefix-spd_i, GainsPrefix-spd_o, GainsPrefix-spd_s}
use Rattle.cmd_decorrelate.proofs.view_lines.write_views.Goals as goal

pub returns-in_err-write_view-clause-prefix : goal.returns-in_err-write_view-clause-prefix
returns-in_err-write_view-clause-prefix g c =
    let p = err_from_is_err_and c.from_residual.result c.from_residual.ensures.1 in
    rw p.1 (GainsPrefix-spd_s c.args.lines.now c.args.outbound.now c.args.inbound.now _ _ c.in_err-write_view.ensures.prefix)

pub returns-in_err-write_view-2-clause-prefix : goal.returns-in_err-write_view-2-clause-prefix
returns-in_err-write_view-2-clause-prefix g c =
    let p = err_from_is_err_and c.from_residual-in_err-write_view-2.result c.from_residual-in_err-write_view-2.ensures.1 in
    rw p.1 (GainsPrefix-spd_o c.args.lines.now c.args.outbound.now c.args.inbound.now _ _ _
    c.in_ok-write_view.ensures.written c.in_err-write_view-2.ensures.prefix)

pub returns-in_err-write_view-3-clause-prefix : goal.returns-in_err-write_view-3-clause-prefix
returns-in_err-write_view-3-clause-prefix g c =
    let p = err_from_is_err_and c.from_residual-in_err-write_view-3.result c.from_residual-in_err-write_view-3.ensures.1 in
    rw p.1 (GainsPrefix-spd_i c.args.lines.now c.args.outbound.now c.args.inbound.now _ _ _ _
    c.in_ok-write_view.ensures.written c.in_ok-write_view-2.ensures.written c.in_err-write_view-3.ensures.prefix)

pub returns-clause-written : goal.returns-clause-written
returns-clause-written g c =
    Gains-views c.args.lines.now c.args.outbound.now c.args.inbound.now _ _ _ _
    c.in_ok-write_view.ensures.written c.in_ok-write_view-2.ensures.written c.in_ok-write_view-3.ensures.written
