use Rattle.std.proofs.Common.{sym, ◌∙◌, add-one}
use Rattle.cert_check.proofs.Scans.{scan-held, scan-missed, scan-past, scan-stopped}
use Rattle.cert_check.proofs.rule.decided.Goals as goal

pub returns-then-mark-line : goal.returns-then-mark-line
returns-then-mark-line c =
    let side = c.args.side.now in
    let first = c.the_first_box_that_meets_is_found.ensures.found c.loop-index.from c.args.region.now side.regions c.in-Some.index
    (sym c.first_met.ensures ∙ c.in-Some.is) in
    sym (scan-stopped c.args.line c.args.region.now c.loop-index.from c.in-Some.index side.regions side.marks.items c.index-mark.result.now
    side.alike first c.index-mark.ensures c.if-mark-line.true)
    ∙ c.loop-index.invariant

pub returns-then-within : goal.returns-then-within
returns-then-within c =
    let side = c.args.side.now in
    let region = c.index-as_slice-index.result in
    let first = c.the_first_box_that_meets_is_found.ensures.found c.loop-index.from c.args.region.now side.regions c.in-Some.index
    (sym c.first_met.ensures ∙ c.in-Some.is) in
    sym (scan-held c.args.line c.args.region.now c.loop-index.from c.in-Some.index side.regions side.marks.items region c.index-mark.result.now
    side.alike first (rw c.as_slice.ensures at c.index-as_slice-index.is) c.index-mark.ensures c.if-mark-line.false (sym c.if-within.ensures))
    ∙ c.loop-index.invariant

pub loop-index-preserved : goal.loop-index-preserved
loop-index-preserved c =
    let side = c.args.side.now in
    let region = c.index-as_slice-index.result in
    let first = c.the_first_box_that_meets_is_found.ensures.found c.loop-index.from c.args.region.now side.regions c.in-Some.index
    (sym c.first_met.ensures ∙ c.in-Some.is) in
    rw add-one
    (sym (scan-past c.args.line c.args.region.now c.loop-index.from c.in-Some.index side.regions side.marks.items region c.index-mark.result.now
    side.alike first (rw c.as_slice.ensures at c.index-as_slice-index.is) c.index-mark.ensures c.if-mark-line.false (sym c.if-within.ensures))
    ∙ c.loop-index.invariant)

pub returns : goal.returns
returns c =
    let side = c.args.side.now in
    let none = c.the_first_box_that_meets_is_found.ensures.none c.loop-index.from c.args.region.now side.regions
    (sym c.first_met.ensures ∙ c.in_default.is) in
    sym (scan-missed c.args.line c.args.region.now c.loop-index.from side.regions side.marks.items side.alike none)
    ∙ c.loop-index.invariant
