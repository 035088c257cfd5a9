use Rattle.std.proofs.Common.{◌<◌, length, arith}
use Rattle.spd_line.proofs.Listed.{products-more}
use Rattle.spd_line.proofs.product_list.products.Goals as goal

pub loop-first-preserved : goal.loop-first-preserved
loop-first-preserved g c =
    let below : c.loop-first.first-index < length c.args.firsts.now = omega arith in
    let more = products-more c.args.firsts.now c.args.seconds.now c.loop-first.first-index c.first-item.result below in
    cc (c.in_ok-put_products.ensures, c.first-item.is)
