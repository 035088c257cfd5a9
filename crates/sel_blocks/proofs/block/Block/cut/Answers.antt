use Rattle.std.proofs.Common.{sym}
use Rattle.sel_blocks.proofs.Hulls.{uncut-by_apart}
use Rattle.sel_blocks.proofs.block.Block.cut.Goals as goal

pub returns-else-may_meet-clause-ok : goal.returns-else-may_meet-clause-ok
returns-else-may_meet-clause-ok g c =
    sym (uncut-by_apart g.met.R.Region.laws c.args.self.now c.args.other.now c.if-may_meet.ensures)
