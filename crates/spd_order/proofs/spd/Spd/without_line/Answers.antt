use Rattle.std.proofs.Common.{◌<◌, length, ap, arith}
use Rattle.spd_order.proofs.Entries.{length-values}
use Rattle.spd_order.proofs.Previews.{without_line}
use Rattle.spd_order.proofs.spd.Spd.without_line.Goals as goal

pub new-requires : goal.new-requires
new-requires c =
    let many = length-values c.self.inside.table.entries in
    let same = ap length c.self.view_is in
    let within : c.in-Some.index < length c.args.self.now = omega (arith, c.in-Some.ensures.within) in
    rw c.self.view_is (without_line c.in-Some.index c.args.self.now c.count.result c.count.ensures.policy within c.count.ensures.count)
