use Rattle.sel_tree.proofs.Nodes.{are_nodes_more}
use Rattle.sel_tree.proofs.check.is_tree.Goals as goal

pub loop-place-preserved : goal.loop-place-preserved
loop-place-preserved g c =
    are_nodes_more g.R.OfFamily.region c.args.regions.now c.args.nodes.now c.loop-place.place c.index-nodes-place.result
    c.loop-place-test.true c.index-nodes-place.is c.loop-place.invariant c.if-not-is_node_at.ensures
