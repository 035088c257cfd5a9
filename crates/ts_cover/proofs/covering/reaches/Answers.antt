use Rattle.std.proofs.Common.{sym, ◌∙◌}
use Rattle.ts_cover.proofs.MetBoxes.{reaches-end, reaches-found, reaches-past}
use Rattle.ts_cover.proofs.covering.reaches.Goals as goal

pub returns-then-real_meet : goal.returns-then-real_meet
returns-then-real_meet c =
    let first = c.the_first_box_that_meets_is_found.ensures.found c.loop-index.from c.args.region.now c.args.boxes.now c.in-Some.index
    (sym c.in-Some.ensures) in
    sym (reaches-found c.args.boxes.now c.args.region.now c.index-as_slice-index.result c.loop-index.from c.in-Some.index first
    (rw c.as_slice.ensures at c.index-as_slice-index.is) (sym c.if-real_meet.ensures))
    ∙ c.loop-index.invariant

pub loop-index-preserved : goal.loop-index-preserved
loop-index-preserved c =
    let first = c.the_first_box_that_meets_is_found.ensures.found c.loop-index.from c.args.region.now c.args.boxes.now c.in-Some.index
    (sym c.in-Some.ensures) in
    reaches-past c.args.boxes.now c.args.region.now c.index-as_slice-index.result c.loop-index.from c.in-Some.index first
    (rw c.as_slice.ensures at c.index-as_slice-index.is) (sym c.if-real_meet.ensures)
    ∙ c.loop-index.invariant

pub returns : goal.returns
returns c =
    sym (reaches-end c.args.boxes.now c.args.region.now c.loop-index.from
    (c.the_first_box_that_meets_is_found.ensures.none c.loop-index.from c.args.region.now c.args.boxes.now (sym c.in_default.ensures)))
    ∙ c.loop-index.invariant
