use Rattle.std.proofs.Common.{◌∙◌, sym, ap}
use Rattle.pair_gap.proofs.Passed.{with_end, with_next}
use Rattle.pair_gap.proofs.gap.least_of_met.Goals as goal

pub loop-index-preserved : goal.loop-index-preserved
loop-index-preserved c =
    rw (c.lesser-best.ensures, c.gap_between.ensures)
    (with_next c.loop-index.best c.args.entry.now c.args.peer.now c.loop-index.from c.in-Some.index c.index-as_slice-index.result
    c.in-Some.ensures.low c.in-Some.ensures.passed c.in-Some.ensures.within (rw c.as_slice.ensures at c.index-as_slice-index.is)
    ∙ c.loop-index.invariant)

pub returns : goal.returns
returns c =
    with_end c.loop-index.best c.args.entry.now c.args.peer.now c.loop-index.from c.in_default.ensures.none ∙ c.loop-index.invariant
