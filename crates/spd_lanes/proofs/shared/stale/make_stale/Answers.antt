use Rattle.std.proofs.Common.{set, ap, sym, ◌∙◌}
use Rattle.std.proofs.lemmas.List.Edits.{map_over_more}
use Rattle.spd_lanes.specs.declared.lane.LaneState.{LaneState}
use Rattle.spd_lanes.specs.inner.Kept.{unfresh}
use Rattle.spd_lanes.proofs.shared.stale.make_stale.Goals as goal

pub loop-lane-preserved : goal.loop-lane-preserved
loop-lane-preserved c =
    rw c.unfresh.ensures
    (ap (λ (lane : LaneState). set c.loop-lane.lanes c.loop-lane.lane-index (unfresh lane)) (sym c.lane-item.is)
    ∙ map_over_more unfresh c.args.lanes.now c.loop-lane.lanes c.loop-lane.lane-index c.lane-item.result c.loop-lane-test.true c.loop-lane.invariant
    c.lane-item.is)
