use Rattle.pair_gap.proofs.Alike.{SoFar-more}
use Rattle.pair_gap.proofs.runs.runs.Goals as goal

pub loop-index-preserved : goal.loop-index-preserved
loop-index-preserved c =
    rw c.in_ok-push.ensures.ok
    (SoFar-more c.args.entries.now c.loop-index.ends c.loop-index.index c.loop-index.end c.end_from-end.result c.loop-index.invariant
    c.loop-index-test.true c.end_from-end.ensures)
