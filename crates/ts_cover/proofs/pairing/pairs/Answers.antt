use Rattle.std.proofs.Common.{sym, ◌∙◌}
use Rattle.sel_region.proofs.Loops.{flat_map_end}
use Rattle.ts_cover.proofs.Steps.{flat_map_step}
use Rattle.ts_cover.specs.Pairs.{pairs, row_of}
use Rattle.ts_cover.proofs.pairing.pairs.Goals as goal

pub loop-remote-preserved : goal.loop-remote-preserved
loop-remote-preserved c =
    rw c.in_ok-put_row.ensures
    (flat_map_step (λ remote. row_of remote c.args.tsr.now) c.loop-remote.list c.args.tsi.now c.loop-remote.remote-index
    _ c.loop-remote-test.true
    ∙ c.loop-remote.invariant)

pub returns : goal.returns
unfolding pairs
returns c =
    sym (flat_map_end (λ remote. row_of remote c.args.tsr.now) c.loop-remote.list c.args.tsi.now c.loop-remote.remote-index
    c.loop-remote-test.false)
    ∙ c.loop-remote.invariant
