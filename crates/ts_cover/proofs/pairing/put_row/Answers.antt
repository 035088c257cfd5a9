use Rattle.std.proofs.Common.{sym, ◌∙◌}
use Rattle.std.specs.Option.{option_to_list}
use Rattle.sel_region.proofs.Loops.{flat_map_end}
use Rattle.ts_cover.proofs.Steps.{flat_map_step}
use Rattle.ts_cover.specs.Pairs.{pair_box}
use Rattle.ts_cover.proofs.pairing.put_row.Goals as goal

pub loop-local-preserved : goal.loop-local-preserved
loop-local-preserved c =
    rw c.in_ok-put_pair.ensures
    (flat_map_step (λ local. option_to_list (pair_box c.args.remote.now local)) c.loop-local.list c.args.tsr.now c.loop-local.local-index
    _ c.loop-local-test.true
    ∙ c.loop-local.invariant)

pub returns : goal.returns
returns c =
    sym (flat_map_end (λ local. option_to_list (pair_box c.args.remote.now local)) c.loop-local.list c.args.tsr.now c.loop-local.local-index
    c.loop-local-test.false)
    ∙ c.loop-local.invariant
