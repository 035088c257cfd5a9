-- The pieces of the first part come into the frame, and after them those of the second.
use Rattle.std.proofs.Common.{sym, ◌∙◌}
use Rattle.std.proofs.lemmas.Result.{on_ok_weaker}
use Rattle.sel_region.proofs.Framed.{map-pair_minus}
use Rattle.sel_region.proofs.pair.PairRegion.minus_in.Goals as goal

pub returns-clause-ok : goal.returns-clause-ok
returns-clause-ok g c =
    let around = g.F.Frame.around c.args.frame in
    let met = sym c.meet.ensures ∙ c.unwrap-first.ensures in
    let all_in_frame =
    map-pair_minus around g.R.Region.meet g.S.Region.meet g.R.Region.minus g.S.Region.minus c.args.self.now c.args.other.now
    c.unwrap-first.result c.args.pieces.now.items _ _ met c.requires c.in_ok-minus_in.ensures.ok in
    on_ok_weaker _ all_in_frame c.minus_in-2.ensures.ok
