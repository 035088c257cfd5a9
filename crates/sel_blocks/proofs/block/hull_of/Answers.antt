use Rattle.std.proofs.Common.{◌≡◌, sym, true}
use Rattle.std.proofs.lemmas.List.{take_all}
use Rattle.std.proofs.lemmas.List.Elements.{All-same}
use Rattle.sel_blocks.proofs.Hulls.{within-hull_more}
use Rattle.sel_blocks.proofs.block.hull_of.Goals as goal

pub loop-region-preserved : goal.loop-region-preserved
loop-region-preserved g c =
    rw c.hull-hull.ensures
    (within-hull_more g.met.R.Region.laws g.met.R.Hull.hull_laws c.args.regions.now c.loop-region.region-index
    c.loop-region.hull c.region-item.result c.loop-region-test.true c.region-item.is c.loop-region.invariant)

pub returns : goal.returns
returns g c =
    All-same (λ r. g.R.Region.within r c.loop-region.hull ≡ true) c.args.regions.now _
    (sym (take_all c.loop-region.region-index c.args.regions.now c.loop-region-test.false)) c.loop-region.invariant
