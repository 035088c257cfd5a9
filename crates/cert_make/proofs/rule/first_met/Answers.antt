use Rattle.std.proofs.Common.{◌<◌, length, sym, ◌∙◌, arith, rules}
use Rattle.cert_make.proofs.Gathering.{first_met-at, first_met-none}
use Rattle.cert_make.proofs.Searches.{first_met-joined, none-joined}
use Rattle.cert_make.proofs.rule.first_met.Goals as goal

pub offset_bounds-as_slice-index : goal.offset_bounds-as_slice-index
offset_bounds-as_slice-index c =
    let first = c.the_first_box_that_meets_is_found.ensures.found c.args.from.now c.args.region.now c.args.side.now.regions c.in-Some.index
    (sym c.first_met.ensures ∙ c.in-Some.is) in
    let within : c.in-Some.index < length c.as_slice.result.now = rw c.as_slice.ensures first.within in
    search rules

pub bounds-as_slice-index : goal.bounds-as_slice-index
bounds-as_slice-index c =
    let first = c.the_first_box_that_meets_is_found.ensures.found c.args.from.now c.args.region.now c.args.side.now.regions c.in-Some.index
    (sym c.first_met.ensures ∙ c.in-Some.is) in
    rw c.as_slice.ensures first.within

pub index-requires : goal.index-requires
index-requires c =
    let first = c.the_first_box_that_meets_is_found.ensures.found c.args.from.now c.args.region.now c.args.side.now.regions c.in-Some.index
    (sym c.first_met.ensures ∙ c.in-Some.is) in
    omega (arith, first.within, c.args.side.now.alike, c.args.side.now.marks.ok.0)

pub returns-in-Some-clause-met : goal.returns-in-Some-clause-met
returns-in-Some-clause-met c =
    let side = c.args.side.now in
    let first = c.the_first_box_that_meets_is_found.ensures.found c.args.from.now c.args.region.now side.regions c.in-Some.index
    (sym c.first_met.ensures ∙ c.in-Some.is) in
    sym (first_met-at c.args.region.now side.regions side.marks.items c.in-Some.index c.index-as_slice-index.result c.index.result.now side.alike
    (first_met-joined c.args.region.now side.regions c.args.from.now c.in-Some.index c.requires first)
    (rw c.as_slice.ensures at c.index-as_slice-index.is) c.index.ensures)

pub returns-in-Some-clause-none_before : goal.returns-in-Some-clause-none_before
returns-in-Some-clause-none_before c =
    let first = c.the_first_box_that_meets_is_found.ensures.found c.args.from.now c.args.region.now c.args.side.now.regions c.in-Some.index
    (sym c.first_met.ensures ∙ c.in-Some.is) in
    none-joined c.args.region.now c.args.side.now.regions c.args.from.now c.in-Some.index c.requires first.none_before

pub returns-in-None-clause-met : goal.returns-in-None-clause-met
returns-in-None-clause-met c =
    let side = c.args.side.now in
    let none = c.the_first_box_that_meets_is_found.ensures.none c.args.from.now c.args.region.now side.regions
    (sym c.first_met.ensures ∙ c.in-None.is) in
    sym (first_met-none c.args.region.now side.regions side.marks.items
    (none-joined c.args.region.now side.regions c.args.from.now (length side.regions) c.requires none))
