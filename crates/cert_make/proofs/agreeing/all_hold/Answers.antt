use Rattle.std.proofs.Common.{Bool, ◌&&◌, ◌++◌, refl, sym, ap, ◌∙◌}
use Rattle.cert_text.specs.Rows.{a_rows, b_rows}
use Rattle.cert_text.specs.Valid.{holds, parts, valid}
use Rattle.cert_make.specs.Trees.{trees_of}
use Rattle.cert_make.specs.inner.Sides.{node_by}
use Rattle.cert_make.proofs.Searches.{starts-added, starts-taken}
use Rattle.cert_make.proofs.Steps.{left_done, left_fewer, left_valid}
use Rattle.cert_make.proofs.agreeing.all_hold.Goals as goal

pub node_for-node-requires : goal.node_for-node-requires
node_for-node-requires c =
    let left = c.loop-region in
    let taken = starts-taken c.args.ours.now c.args.theirs.now c.in-Some.region left.todo c.pop.new.self c.pop-start.result left.starts
    c.pop-start.new.self c.in-Some.ensures c.pop-start.ensures.first c.pop-start.ensures.rest left.invariant.starts in
    taken.0

pub returns-then-not-held : goal.returns-then-not-held
returns-then-not-held c = λ a b sides.
    let ours = c.args.ours.now in
    let theirs = c.args.theirs.now in
    let node = c.node_for-node.result in
    let rule = holds (a_rows a) (b_rows b) in
    let behind = parts node c.in-Some.region ++ c.pop.new.self in
    sym
    (left_valid ours theirs node c.in-Some.region c.loop-region.todo c.pop.new.self behind c.in-Some.ensures c.node_for-node.ensures.node refl rule
    ∙ ap (λ (here : Bool). here && valid rule (trees_of (node_by ours theirs) behind) behind)
    (sym (c.node_holds-held.ensures a b sides.ours_are sides.theirs_are) ∙ c.if-not-held.true))
    ∙ c.loop-region.invariant.left a b sides

pub loop-region-preserved : goal.loop-region-preserved
loop-region-preserved c =
    let ours = c.args.ours.now in
    let theirs = c.args.theirs.now in
    let left = c.loop-region in
    let node = c.node_for-node.result in
    let taken = starts-taken ours theirs c.in-Some.region left.todo c.pop.new.self c.pop-start.result left.starts
    c.pop-start.new.self c.in-Some.ensures c.pop-start.ensures.first c.pop-start.ensures.rest left.invariant.starts in
    record {
      left = λ a b sides.
          let rule = holds (a_rows a) (b_rows b) in
          sym
          (left_valid ours theirs node c.in-Some.region left.todo c.pop.new.self c.add_parts.new.self c.in-Some.ensures c.node_for-node.ensures.node
          c.in_ok-add_parts.ensures rule
          ∙ ap (λ (here : Bool). here && valid rule (trees_of (node_by ours theirs) c.add_parts.new.self) c.add_parts.new.self)
          (sym (c.node_holds-held.ensures a b sides.ours_are sides.theirs_are) ∙ c.if-not-held.false))
          ∙ left.invariant.left a b sides;
      starts = starts-added ours theirs node c.in-Some.region c.pop.new.self c.add_parts.new.self
          c.node_for-node.new.start c.pop-start.new.self c.add_behind.new.self c.in_ok-add_parts.ensures c.in_ok-add_behind.ensures
          c.node_for-node.ensures.behind taken.1;
    }

pub loop-region-smaller : goal.loop-region-smaller
loop-region-smaller c =
    left_fewer c.args.ours.now c.args.theirs.now c.node_for-node.result c.in-Some.region c.loop-region.todo c.pop.new.self c.add_parts.new.self
    c.in-Some.ensures c.node_for-node.ensures.node c.in_ok-add_parts.ensures

pub returns : goal.returns
returns c = λ a b sides.
    sym (left_done c.args.ours.now c.args.theirs.now (holds (a_rows a) (b_rows b)) c.loop-region.todo c.in_default.ensures)
    ∙ c.loop-region.invariant.left a b sides
