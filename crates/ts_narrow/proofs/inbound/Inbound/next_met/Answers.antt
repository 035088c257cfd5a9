use Rattle.std.proofs.Common.{List, ap, ◌∙◌}
use Rattle.sel_box.specs.declared.any_box.AnyBox.{AnyBox}
use Rattle.sel_tree.specs.FirstMet.{first_met_from}
use Rattle.ts_narrow.specs.inner.Listed.{regions_in}
use Rattle.ts_narrow.proofs.Passed.{below_all}
use Rattle.ts_narrow.proofs.inbound.Inbound.next_met.Goals as goal

pub returns-clause-first : goal.returns-clause-first
returns-clause-first c =
    c.first_met.ensures
    ∙ ap (λ (regions : List AnyBox). first_met_from c.args.from c.args.region.now regions) (rw c.self.view_is at c.self.invariant)

pub returns-clause-within : goal.returns-clause-within
returns-clause-within c =
    below_all c.first_met.result c.args.from c.args.region.now c.args.self.now
    (c.the_first_box_that_meets_is_found.ensures.found c.args.from c.args.region.now (regions_in c.args.self.now))
    (c.first_met.ensures
    ∙ ap (λ (regions : List AnyBox). first_met_from c.args.from c.args.region.now regions) (rw c.self.view_is at c.self.invariant))
