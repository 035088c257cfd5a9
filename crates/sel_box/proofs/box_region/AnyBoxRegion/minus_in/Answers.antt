-- The pieces of the ranges come into the frame of their family, and so the box's into its own.
use Rattle.std.proofs.lemmas.Result.{on_ok_weaker}
use Rattle.sel_text.specs.declared.family.Family.TheVariants.{Four, Six}
use Rattle.sel_box.proofs.Framed.{boxes_in_frame}
use Rattle.sel_box.proofs.box_region.AnyBoxRegion.minus_in.Goals as goal

pub returns-in-Four-Four-clause-ok : goal.returns-in-Four-Four-clause-ok
returns-in-Four-Four-clause-ok g c =
    let in_frame =
    boxes_in_frame (g.F.Frame.around c.args.frame) Four c.args.self.now c.args.other.now c.in-Four-Four.ranges c.in-Four-Four.others
    c.args.pieces.now.items _ c.in-Four-Four.is-0 c.in-Four-Four.is-1 in
    on_ok_weaker _ in_frame c.minus_in.ensures.ok

pub returns-in-Six-Six-clause-ok : goal.returns-in-Six-Six-clause-ok
returns-in-Six-Six-clause-ok g c =
    let in_frame =
    boxes_in_frame (g.F.Frame.around c.args.frame) Six c.args.self.now c.args.other.now c.in-Six-Six.ranges c.in-Six-Six.others
    c.args.pieces.now.items _ c.in-Six-Six.is-0 c.in-Six-Six.is-1 in
    on_ok_weaker _ in_frame c.minus_in-in-Six-Six.ensures.ok
