use Rattle.sel_region.proofs.CutLists.{cut_all-take}
use Rattle.sel_region.proofs.cutting.cut_all.Goals as goal

pub loop-region-preserved : goal.loop-region-preserved
loop-region-preserved g c =
    let minus = g.R.Region.minus in
    let region = c.region-item.result in
    let pieces = c.args.pieces.now.items in
    rw (c.in_ok-cut_each.ensures.ok, c.loop-region.invariant)
    (cut_all-take minus pieces c.args.regions.now c.loop-region.region-index region c.loop-region-test.true c.region-item.is)
