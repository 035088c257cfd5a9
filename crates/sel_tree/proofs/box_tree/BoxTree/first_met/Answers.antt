use Rattle.std.proofs.Common.{◌≡◌, ℕ, ◌<◌, ◌≤◌, Option, Some, None, length, max, min, sym, subst, arith}
use Rattle.sel_box.specs.declared.any_box.AnyBox.{AnyBox}
use Rattle.sel_tree.specs.FirstMet.{NoneMet, first_met_from}
use Rattle.sel_tree.specs.laws.FirstMetLaws.{None-from_none_met, Some-from_met}
use Rattle.sel_tree.proofs.Nodes.{after_first, meets_first, none_before}
use Rattle.sel_tree.proofs.box_tree.BoxTree.first_met.Goals as goal

pub returns-then-near-few : goal.returns-then-near-few
returns-then-near-few c =
    let near = c.first_met_between-near in
    rw (← c.self.view_is, ← c.as_slice-regions.ensures)
    (sym (Some-from_met c.args.from c.args.region.now c.as_slice-regions.result.now near.result c.args.region.now
    (near.ensures.after c.if-near-few.true) (omega arith) (near.ensures.met c.args.region.now c.if-near-few.true) near.ensures.none_before))

pub returns-then-first-regions : goal.returns-then-first-regions
returns-then-first-regions c =
    let regions = c.as_slice-regions.result.now in
    let region = c.args.region.now in
    let from = c.args.from in
    let few = c.min-few.result in
    let near = c.first_met_between-near.result in
    let placed = c.first_placed-placed in
    let first = c.first_met_between-first in
    let count = c.self.inside.trees.placed in
    let max_is : c.max.result ≡ max few count = c.max.ensures in
    let none_behind = subst (λ (n : ℕ). NoneMet n first.result region regions) max_is first.ensures.none_before in
    let first_after : first.result < placed.result → max few count ≤ first.result =
    λ below. subst (λ (n : ℕ). n ≤ first.result) max_is (first.ensures.after below) in
    let start : min from (length regions) ≤ few = omega (arith, c.min-few.ensures, c.saturating_add.ensures, c.ranges.from.fits) in
    rw (← c.self.view_is, ← c.as_slice-regions.ensures)
    (sym (Some-from_met from region regions first.result region
    (after_first regions region from near few count placed.result first.result c.first_met_between-near.ensures.none_before c.if-near-few.false
    placed.ensures.met placed.ensures.least first.ensures.within none_behind start (omega arith) first_after first.ensures.met)
    (omega arith)
    (meets_first regions region from near few count placed.result first.result c.first_met_between-near.ensures.none_before c.if-near-few.false
    placed.ensures.met placed.ensures.least first.ensures.within none_behind start (omega arith) first_after first.ensures.met region)
    (none_before regions region from near few count placed.result first.result c.first_met_between-near.ensures.none_before c.if-near-few.false
    placed.ensures.met placed.ensures.least first.ensures.within none_behind)))

pub returns-else-first-regions : goal.returns-else-first-regions
returns-else-first-regions c =
    let regions = c.as_slice-regions.result.now in
    let region = c.args.region.now in
    let from = c.args.from in
    let few = c.min-few.result in
    let placed = c.first_placed-placed in
    let first = c.first_met_between-first in
    let count = c.self.inside.trees.placed in
    let max_is : c.max.result ≡ max few count = c.max.ensures in
    let none_behind = subst (λ (n : ℕ). NoneMet n first.result region regions) max_is first.ensures.none_before in
    let all : first.result ≡ length regions = omega (arith, placed.ensures.met.within) in
    rw (← c.self.view_is, ← c.as_slice-regions.ensures)
    (sym (None-from_none_met from region regions
    (subst (λ (n : ℕ). NoneMet from n region regions) all
    (none_before regions region from c.first_met_between-near.result few count placed.result first.result c.first_met_between-near.ensures.none_before
    c.if-near-few.false placed.ensures.met placed.ensures.least first.ensures.within none_behind))))
