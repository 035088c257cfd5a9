use Rattle.sel_tree.proofs.Nodes.{no_less-from_nodes}
use Rattle.sel_tree.proofs.search.least_met.Goals as goal

pub returns-clause-least : goal.returns-clause-least
returns-clause-least g c = λ k has.
    no_less-from_nodes c.args.regions.now c.args.nodes.now c.args.from c.args.region.now c.loop-at.best c.loop-at.at k
    c.loop-at-test.false c.loop-at.invariant.least has
