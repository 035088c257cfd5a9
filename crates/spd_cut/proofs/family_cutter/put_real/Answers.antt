use Rattle.std.proofs.Common.{◌∙◌}
use Rattle.sel_box.specs.SomePoint.{has_real_point}
use Rattle.spd_cut.specs.Entries.{piece_of}
use Rattle.spd_cut.proofs.Loops.{kept_block}
use Rattle.spd_cut.proofs.family_cutter.put_real.Goals as goal

pub loop-block-preserved : goal.loop-block-preserved
loop-block-preserved g c =
    let region = g.R.OfFamily.region in
    rw (c.in_ok-put_real_of.ensures, c.as_slice.ensures)
    (kept_block (λ r. has_real_point (region r)) (λ r. piece_of c.args.uncut.now (region r)) c.loop-block.entries
    c.blocks-block-items.result.now c.loop-block.block-index c.block-item.result c.loop-block-test.true c.block-item.is
    ∙ c.loop-block.invariant)
