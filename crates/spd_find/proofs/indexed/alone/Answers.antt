use Rattle.spd_find.proofs.Alone.{alone_from}
use Rattle.spd_find.proofs.indexed.alone.Goals as goal

pub returns : goal.returns
returns c =
    alone_from c.args.point.now c.in-Some.region c.family.result c.only.result c.only-2.result c.only-3.result c.only-4.result c.only-5.result
    c.family.ensures.point c.family.ensures.value (cc) (cc) (cc) (cc) (cc) c.in-Some.ensures
