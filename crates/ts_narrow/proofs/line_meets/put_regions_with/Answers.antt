use Rattle.std.proofs.Common.{◌∙◌, sym}
use Rattle.ts_narrow.specs.inner.Listed.{regions_in}
use Rattle.ts_narrow.proofs.Passed.{put-end_with, put-next_with, put-other}
use Rattle.ts_narrow.proofs.line_meets.put_regions_with.Goals as goal

pub returns-then-e-link : goal.returns-then-e-link
returns-then-e-link c = put-other c.args.link c.args.list.now c.args.e.now c.args.inbound.now c.if-e-link.true

pub loop-index-preserved : goal.loop-index-preserved
loop-index-preserved c =
    let first = c.the_first_box_that_meets_is_found.ensures.found c.loop-index.from c.args.e.now.region (regions_in c.args.inbound.now)
    c.in-Some.index
    (sym c.in-Some.ensures.first) in
    rw c.in_ok-put_region_of.ensures
    (put-next_with c.args.link c.loop-index.list c.args.e.now c.index-as_slice-index.result c.args.inbound.now c.loop-index.from
    c.in-Some.index
    first (rw c.as_slice.ensures at c.index-as_slice-index.is)
    ∙ c.loop-index.invariant)

pub returns : goal.returns
returns c =
    put-end_with c.args.link c.loop-index.list c.args.e.now c.args.inbound.now c.loop-index.from
    (c.the_first_box_that_meets_is_found.ensures.none c.loop-index.from c.args.e.now.region (regions_in c.args.inbound.now)
    (sym c.in_default.ensures.first))
    ∙ c.loop-index.invariant
