use Rattle.std.proofs.Common.{ap, ◌∙◌}
use Rattle.sel_tree.specs.FirstMet.{meets}
use Rattle.sel_tree.proofs.Nodes.{passed_by_hull}
use Rattle.sel_tree.proofs.search.is_idle.Goals as goal

pub returns : goal.returns
returns g c =
    passed_by_hull g.R.OfFamily.region c.args.node.now c.args.from c.args.best c.args.region.now c.meets.result
    (c.meets.ensures ∙ ap (meets c.args.region.now) c.region.ensures)
