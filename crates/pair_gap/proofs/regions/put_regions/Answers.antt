use Rattle.std.proofs.Common.{◌∙◌}
use Rattle.pair_gap.proofs.Passed.{regions_end, regions_next}
use Rattle.pair_gap.proofs.regions.put_regions.Goals as goal

pub loop-index-preserved : goal.loop-index-preserved
loop-index-preserved c =
    rw c.in_ok-put_region.ensures
    (regions_next c.loop-index.list c.args.entry.now c.args.peer.now c.loop-index.from c.in-Some.index c.index-as_slice-index.result
    c.in-Some.ensures.low c.in-Some.ensures.passed c.in-Some.ensures.within (rw c.as_slice.ensures at c.index-as_slice-index.is)
    ∙ c.loop-index.invariant)

pub returns : goal.returns
returns c =
    regions_end c.loop-index.list c.args.entry.now c.args.peer.now c.loop-index.from c.in_default.ensures.none ∙ c.loop-index.invariant
