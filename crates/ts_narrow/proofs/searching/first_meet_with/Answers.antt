use Rattle.std.proofs.Common.{sym, ◌∙◌}
use Rattle.std.specs.List.{find}
use Rattle.std.specs.Option.{option_to_list}
use Rattle.ts_narrow.specs.Meets.{meet_of}
use Rattle.ts_narrow.specs.inner.Listed.{regions_in}
use Rattle.ts_narrow.proofs.Answering.{step_found, step_none}
use Rattle.ts_narrow.proofs.Passed.{find-unprotected, find_end_with, find_next_with}
use Rattle.ts_narrow.proofs.searching.first_meet_with.Goals as goal

pub returns-then-not-is_protect : goal.returns-then-not-is_protect
returns-then-not-is_protect g c =
    sym (find-unprotected (g.T.MeetTest.passes c.args.test.now) c.args.e.now c.args.inbound.now
    (sym c.is_protect.ensures ∙ c.if-not-is_protect.true))

pub returns-in-Some-2 : goal.returns-in-Some-2
returns-in-Some-2 g c =
    let first = c.the_first_box_that_meets_is_found.ensures.found c.loop-index.from c.args.e.now.region (regions_in c.args.inbound.now)
    c.in-Some.index
    (sym c.in-Some.ensures.first) in
    step_found c.in_ok-found.field-0
    (find (g.T.MeetTest.passes c.args.test.now) (option_to_list (meet_of c.args.e.now c.index-as_slice-index.result))) _ _ _
    c.in-Some-2.found c.in_ok-found.ensures c.in-Some-2.is
    (find_next_with (g.T.MeetTest.passes c.args.test.now) c.args.e.now c.index-as_slice-index.result c.args.inbound.now c.loop-index.from
    c.in-Some.index
    first (rw c.as_slice.ensures at c.index-as_slice-index.is))
    c.loop-index.invariant

pub loop-index-preserved : goal.loop-index-preserved
loop-index-preserved g c =
    let first = c.the_first_box_that_meets_is_found.ensures.found c.loop-index.from c.args.e.now.region (regions_in c.args.inbound.now)
    c.in-Some.index
    (sym c.in-Some.ensures.first) in
    step_none c.in_ok-found.field-0
    (find (g.T.MeetTest.passes c.args.test.now) (option_to_list (meet_of c.args.e.now c.index-as_slice-index.result))) _ _ _
    c.in_ok-found.ensures c.in-None.is
    (find_next_with (g.T.MeetTest.passes c.args.test.now) c.args.e.now c.index-as_slice-index.result c.args.inbound.now c.loop-index.from
    c.in-Some.index
    first (rw c.as_slice.ensures at c.index-as_slice-index.is))
    c.loop-index.invariant

pub returns : goal.returns
returns g c =
    sym (find_end_with (g.T.MeetTest.passes c.args.test.now) c.args.e.now c.args.inbound.now c.loop-index.from
    (c.the_first_box_that_meets_is_found.ensures.none c.loop-index.from c.args.e.now.region (regions_in c.args.inbound.now)
    (sym c.in_default.ensures.first)))
    ∙ c.loop-index.invariant
