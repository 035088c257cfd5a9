use Rattle.std.proofs.Common.{sym, ap, ◌∙◌}
use Rattle.ts_narrow.specs.inner.Rests.{some_left}
use Rattle.ts_narrow.proofs.Waiting.{some_left-cut, some_left-uncut, work-ends, work-less}
use Rattle.ts_narrow.proofs.leaving.is_left.Goals as goal

pub returns-in_ok-put_cut-in-Some-clause-left : goal.returns-in_ok-put_cut-in-Some-clause-left
returns-in_ok-put_cut-in-Some-clause-left c =
    let rest = c.args.rest.now in
    let first = c.the_first_box_that_meets_is_found.ensures.found rest.from rest.piece c.args.others.now c.in-Some.index
    (sym c.in-Some.ensures) in
    ap (some_left c.args.others.now) c.in_ok-put_cut-in-Some.ensures
    ∙ some_left-cut c.args.others.now c.args.rests.now.items rest c.index-as_slice-index.result c.in-Some.index first
    (rw c.as_slice.ensures at c.index-as_slice-index.is)

pub returns-in_ok-put_cut-in-Some-clause-less : goal.returns-in_ok-put_cut-in-Some-clause-less
returns-in_ok-put_cut-in-Some-clause-less c =
    let rest = c.args.rest.now in
    let first = c.the_first_box_that_meets_is_found.ensures.found rest.from rest.piece c.args.others.now c.in-Some.index
    (sym c.in-Some.ensures) in
    rw c.in_ok-put_cut-in-Some.ensures
    (work-less c.args.others.now c.args.rests.now.items rest c.index-as_slice-index.result c.in-Some.index first
    (rw c.as_slice.ensures at c.index-as_slice-index.is))

pub returns-in-None-clause-left : goal.returns-in-None-clause-left
returns-in-None-clause-left c =
    let rest = c.args.rest.now in
    some_left-uncut c.args.others.now c.args.rests.now.items rest c.has_real.result
    (c.the_first_box_that_meets_is_found.ensures.none rest.from rest.piece c.args.others.now (sym c.in-None.ensures))
    c.has_real.ensures.test

pub returns-in-None-clause-less : goal.returns-in-None-clause-less
returns-in-None-clause-less c =
    let rest = c.args.rest.now in
    work-ends c.args.others.now c.args.rests.now.items rest
    (c.the_first_box_that_meets_is_found.ensures.none rest.from rest.piece c.args.others.now (sym c.in-None.ensures))
