use Rattle.std.proofs.Common.{ℕ, List, [], ◌++◌, refl, subst, ◌∙◌}
use Rattle.std.proofs.lemmas.Result.{err_from_is_err_and}
use Rattle.pair_io.proofs.Gains.{GainsPrefix-nothing, GainsSoFar, GainsSoFar-end, GainsSoFar-more, GainsSoFar-prefix}
use Rattle.cert_text.specs.Valid.{parts, whole_boxes}
use Rattle.cert_make.specs.inner.Sides.{node_by, trees_text}
use Rattle.cert_make.proofs.Searches.{starts-added, starts-taken}
use Rattle.cert_make.proofs.Steps.{left_begins, left_fewer, left_none}
use Rattle.cert_make.proofs.writing.write_trees.Goals as goal

pub returns-in_err-write_node-clause-prefix : goal.returns-in_err-write_node-clause-prefix
returns-in_err-write_node-clause-prefix g c =
    let p = err_from_is_err_and c.from_residual-in_err-write_node.result c.from_residual-in_err-write_node.ensures.1 in
    let left = c.loop-region in
    let node = c.node_for-node.result in
    let behind = parts node c.in-Some.region ++ c.pop.new.self in
    let begins = left_begins c.args.ours.now c.args.theirs.now node c.in-Some.region left.todo c.pop.new.self behind c.in-Some.ensures
    c.node_for-node.ensures.node refl c.family.result c.family.ensures in
    rw p.1 (GainsSoFar-prefix _ _ begins left.invariant.written c.in_err-write_node.ensures.prefix)

pub returns-in_err-add_parts-clause-prefix : goal.returns-in_err-add_parts-clause-prefix
returns-in_err-add_parts-clause-prefix g c =
    let p = err_from_is_err_and c.from_residual-in_err-add_parts.result c.from_residual-in_err-add_parts.ensures.1 in
    let left = c.loop-region in
    let node = c.node_for-node.result in
    let behind = parts node c.in-Some.region ++ c.pop.new.self in
    let begins = left_begins c.args.ours.now c.args.theirs.now node c.in-Some.region left.todo c.pop.new.self behind c.in-Some.ensures
    c.node_for-node.ensures.node refl c.family.result c.family.ensures in
    let written = GainsSoFar-more _ _ begins left.invariant.written c.in_ok-write_node.ensures.written in
    rw p.1 (GainsSoFar-prefix [] (trees_text (node_by c.args.ours.now c.args.theirs.now) behind) refl written (GainsPrefix-nothing refl))

pub returns-in_err-add_behind-clause-prefix : goal.returns-in_err-add_behind-clause-prefix
returns-in_err-add_behind-clause-prefix g c =
    let p = err_from_is_err_and c.from_residual-in_err-add_behind.result c.from_residual-in_err-add_behind.ensures.1 in
    let left = c.loop-region in
    let node = c.node_for-node.result in
    let behind = parts node c.in-Some.region ++ c.pop.new.self in
    let begins = left_begins c.args.ours.now c.args.theirs.now node c.in-Some.region left.todo c.pop.new.self behind c.in-Some.ensures
    c.node_for-node.ensures.node refl c.family.result c.family.ensures in
    let written = GainsSoFar-more _ _ begins left.invariant.written c.in_ok-write_node.ensures.written in
    rw p.1 (GainsSoFar-prefix [] (trees_text (node_by c.args.ours.now c.args.theirs.now) behind) refl written (GainsPrefix-nothing refl))

pub node_for-node-requires : goal.node_for-node-requires
node_for-node-requires g c =
    let left = c.loop-region in
    let taken = starts-taken c.args.ours.now c.args.theirs.now c.in-Some.region left.todo c.pop.new.self c.pop-start.result left.starts
    c.pop-start.new.self c.in-Some.ensures c.pop-start.ensures.first c.pop-start.ensures.rest left.invariant.starts in
    taken.0

pub loop-region-preserved : goal.loop-region-preserved
loop-region-preserved g c =
    let left = c.loop-region in
    let begins = left_begins c.args.ours.now c.args.theirs.now c.node_for-node.result c.in-Some.region left.todo c.pop.new.self c.add_parts.new.self
    c.in-Some.ensures c.node_for-node.ensures.node c.in_ok-add_parts.ensures c.family.result c.family.ensures in
    let taken = starts-taken c.args.ours.now c.args.theirs.now c.in-Some.region left.todo c.pop.new.self c.pop-start.result left.starts
    c.pop-start.new.self c.in-Some.ensures c.pop-start.ensures.first c.pop-start.ensures.rest left.invariant.starts in
    record {
      written = GainsSoFar-more _ _ begins left.invariant.written c.in_ok-write_node.ensures.written;
      faults = c.in_ok-write_node.ensures.no_fault ∙ left.invariant.faults;
      starts = starts-added c.args.ours.now c.args.theirs.now c.node_for-node.result c.in-Some.region c.pop.new.self c.add_parts.new.self
          c.node_for-node.new.start c.pop-start.new.self c.add_behind.new.self c.in_ok-add_parts.ensures c.in_ok-add_behind.ensures
          c.node_for-node.ensures.behind taken.1;
    }

pub loop-region-smaller : goal.loop-region-smaller
loop-region-smaller g c =
    left_fewer c.args.ours.now c.args.theirs.now c.node_for-node.result c.in-Some.region c.loop-region.todo c.pop.new.self c.add_parts.new.self
    c.in-Some.ensures c.node_for-node.ensures.node c.in_ok-add_parts.ensures

pub returns-clause-written : goal.returns-clause-written
returns-clause-written g c =
    let left = c.loop-region in
    GainsSoFar-end
    (subst
    (λ (text : List ℕ). GainsSoFar (g.O.Sink.told c.args.out.now) (g.O.Sink.told left.out) text
    (trees_text (node_by c.args.ours.now c.args.theirs.now) whole_boxes))
    (left_none c.args.ours.now c.args.theirs.now left.todo c.in_default.ensures) left.invariant.written)
