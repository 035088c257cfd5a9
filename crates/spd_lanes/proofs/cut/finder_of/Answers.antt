use Rattle.std.proofs.Common.{◌∙◌}
use Rattle.spd_cut.specs.declared.entry.Entry.{Entry}
use Rattle.spd_lanes.proofs.Loops.{map_next}
use Rattle.spd_lanes.proofs.cut.finder_of.Goals as goal

pub loop-entry-preserved : goal.loop-entry-preserved
loop-entry-preserved c =
    rw c.in_ok-push.ensures.ok
    (map_next (λ (entry : Entry). entry.region) c.loop-entry.list c.args.entries.now c.loop-entry.entry-index c.entry-item.result
    c.loop-entry-test.true c.entry-item.is
    ∙ c.loop-entry.invariant)
