use Rattle.std.proofs.Common.{Some, sym, subst}
use Rattle.spd_cache.specs.inner.Hulls.{HaveAll}
use Rattle.spd_cache.proofs.Widened.{here-four, here-six, hulls, still-four, still-six}
use Rattle.spd_cache.proofs.hulls.Hulls.widen.Goals as goal

pub returns-in-Four-clause-still : goal.returns-in-Four-clause-still
returns-in-Four-clause-still c =
    still-four c.args.self.now.four c.args.self.now.six c.joined.result c.joined.ensures.first

pub returns-in-Four-clause-here : goal.returns-in-Four-clause-here
returns-in-Four-clause-here c =
    subst (HaveAll (hulls (Some c.joined.result) c.args.self.now.six)) (sym c.in-Four.is)
    (here-four c.args.self.now.six c.joined.result c.in-Four.ranges c.joined.ensures.second)

pub returns-in-Six-clause-still : goal.returns-in-Six-clause-still
returns-in-Six-clause-still c =
    still-six c.args.self.now.four c.args.self.now.six c.joined-in-Six.result c.joined-in-Six.ensures.first

pub returns-in-Six-clause-here : goal.returns-in-Six-clause-here
returns-in-Six-clause-here c =
    subst (HaveAll (hulls c.args.self.now.four (Some c.joined-in-Six.result))) (sym c.in-Six.is)
    (here-six c.args.self.now.four c.joined-in-Six.result c.in-Six.ranges c.joined-in-Six.ensures.second)
