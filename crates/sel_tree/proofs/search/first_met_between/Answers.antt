use Rattle.std.proofs.Common.{◌≡◌, ◌<◌, false, length, subst, sym, ◌∙◌, arith}
use Rattle.std.proofs.lemmas.List.Elements.{AllWithin-more}
use Rattle.sel_box.specs.declared.any_box.AnyBox.{AnyBox}
use Rattle.sel_tree.specs.FirstMet.{meets}
use Rattle.sel_tree.proofs.Nodes.{at_default}
use Rattle.sel_tree.proofs.search.first_met_between.Goals as goal

pub loop-at-preserved : goal.loop-at-preserved
loop-at-preserved c =
    let regions = c.args.regions.now in
    let region = c.args.region.now in
    let below : c.loop-at.at < length regions = omega arith in
    AllWithin-more (λ other. meets region other ≡ false) regions c.args.from c.loop-at.at c.loop-at.invariant
    (λ d. subst (λ (other : AnyBox). meets region other ≡ false)
    (at_default regions c.loop-at.at c.index-regions-at.result d below c.index-regions-at.is)
    (sym c.meets.ensures ∙ c.if-meets.false))
