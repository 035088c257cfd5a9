use Rattle.std.proofs.Common.{ap, ◌∙◌}
use Rattle.spd_find.specs.Finding.{index_of}
use Rattle.spd_find.proofs.Alone.{first_met-alone}
use Rattle.spd_find.proofs.indexed.IndexedFinder.find.Goals as goal

pub returns-clause-index : goal.returns-clause-index
returns-clause-index g c =
    c.first_met.ensures
    ∙ first_met-alone c.alone.result c.args.point.now c.alone.ensures c.self.inside.tree
    ∙ ap (index_of c.args.point.now) c.self.view_is
