use Rattle.std.proofs.Common.{◌∙◌, sym}
use Rattle.sel_region.proofs.Loops.{flat_map_end, flat_map_next}
use Rattle.sel_region.proofs.cutting.append_cut.Goals as goal

pub loop-piece-preserved : goal.loop-piece-preserved
loop-piece-preserved g c =
    rw c.in_ok-minus.ensures.ok
    (flat_map_next (λ piece. g.R.Region.minus piece c.args.region.now) c.loop-piece.left.items c.args.pieces.now
    c.loop-piece.piece-index c.piece-item.result c.loop-piece-test.true c.piece-item.is
    ∙ c.loop-piece.invariant)

pub returns : goal.returns
returns g c =
    sym (flat_map_end (λ piece. g.R.Region.minus piece c.args.region.now) c.loop-piece.left.items c.args.pieces.now
    c.loop-piece.piece-index c.loop-piece-test.false)
    ∙ c.loop-piece.invariant
