use Rattle.std.proofs.Common.{Ok, ap, sym, ◌∙◌, arith}
use Rattle.sel_text.specs.Lines.{lines_of}
use Rattle.cert_text.specs.Grammar.{node_of}
use Rattle.cert_check.specs.inner.Steps.{rule_by}
use Rattle.cert_check.proofs.Forms.{answer_from-done, answer_from-faulty, answer_from-long, answer_from-node, answer_from-short}
use Rattle.cert_check.proofs.checking.check_nodes.Goals as goal

pub returns-in_default-split_line-clause-err : goal.returns-in_default-split_line-clause-err
returns-in_default-split_line-clause-err c =
    let left = c.loop-region in
    sym left.invariant.answer
    ∙ answer_from-short (rule_by c.args.ours.now c.args.theirs.now) left.broken left.done c.in-Some.region left.todo c.pop.new.self
    (lines_of left.rest.now) c.in-Some.ensures c.in_default-split_line.ensures.lines

pub returns-in_default-read_node-clause-err : goal.returns-in_default-read_node-clause-err
returns-in_default-read_node-clause-err c =
    let left = c.loop-region in
    let line = c.in-Some-split_line.line.now in
    sym left.invariant.answer
    ∙ answer_from-faulty (rule_by c.args.ours.now c.args.theirs.now) left.broken left.done c.in-Some.region left.todo c.pop.new.self line
    (lines_of left.rest.now) (lines_of c.in-Some-split_line.behind.now) c.in-Some.ensures c.in-Some-split_line.ensures.lines
    (c.in_default-read_node.ensures ∙ ap (λ family. node_of family line) c.family.ensures)

pub loop-region-preserved : goal.loop-region-preserved
loop-region-preserved c =
    let left = c.loop-region in
    let line = c.in-Some-split_line.line.now in
    record {
      answer = answer_from-node (rule_by c.args.ours.now c.args.theirs.now) left.broken c.broken_behind-broken.result left.done c.in-Some-read_node.node
          c.in-Some.region left.todo c.pop.new.self c.add_parts.new.self line (lines_of left.rest.now) (lines_of c.in-Some-split_line.behind.now)
          c.in-Some.ensures c.in-Some-split_line.ensures.lines
          (c.in-Some-read_node.ensures ∙ ap (λ family. node_of family line) c.family.ensures)
          c.broken_behind-broken.ensures c.in_ok-add_parts.ensures
          ∙ left.invariant.answer;
      counted = omega (arith, c.in-Some-split_line.ensures.shorter, left.invariant.counted);
    }

pub returns-in-None-clause-ok : goal.returns-in-None-clause-ok
returns-in-None-clause-ok c =
    let left = c.loop-region in
    sym left.invariant.answer
    ∙ answer_from-done (rule_by c.args.ours.now c.args.theirs.now) left.broken left.done left.todo (lines_of left.rest.now)
    c.in_default.ensures c.in-None.ensures.lines
    ∙ ap Ok (sym c.checked.ensures)

pub returns-clause-err : goal.returns-clause-err
returns-clause-err c =
    let left = c.loop-region in
    let further = c.in-Some-split_line-2 in
    sym left.invariant.answer
    ∙ answer_from-long (rule_by c.args.ours.now c.args.theirs.now) left.broken left.done left.todo further.field-0.0.now (lines_of left.rest.now)
    (lines_of further.field-0.1.now) c.in_default.ensures further.ensures.lines
