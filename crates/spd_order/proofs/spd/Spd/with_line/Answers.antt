use Rattle.std.proofs.Common.{sym}
use Rattle.spd_order.proofs.MayEdit.{may_insert}
use Rattle.spd_order.proofs.Previews.{with_line}
use Rattle.spd_order.proofs.spd.Spd.with_line.Goals as goal

pub new-requires : goal.new-requires
new-requires c =
    let may = may_insert c.args.place c.args.line.now c.args.self.now (sym c.in_default.ensures) in
    rw c.self.view_is (with_line c.args.place c.args.line.now c.args.self.now c.count.result c.count.ensures.policy may c.count.ensures.count)
