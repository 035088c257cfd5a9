use Rattle.std.proofs.Common.{◌∙◌}
use Rattle.ts_narrow.proofs.Passed.{put-next}
use Rattle.ts_narrow.proofs.line_meets.regions_of.Goals as goal

pub loop-e-preserved : goal.loop-e-preserved
loop-e-preserved c =
    rw c.in_ok-put_regions_with.ensures
    (put-next c.args.link c.loop-e.list c.args.outbound.now c.args.inbound.now c.loop-e.e-index c.e-item.result c.loop-e-test.true
    c.e-item.is
    ∙ c.loop-e.invariant)
