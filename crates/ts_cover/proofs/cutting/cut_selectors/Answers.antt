use Rattle.std.proofs.Common.{sym, ◌∙◌}
use Rattle.sel_region.proofs.Loops.{flat_map_end}
use Rattle.ts_cover.proofs.Steps.{flat_map_step}
use Rattle.ts_cover.specs.Writing.{cut_selector, cut_selectors}
use Rattle.ts_cover.proofs.CutSides.{cut_selectors-few, cut_selectors-right}
use Rattle.ts_cover.proofs.cutting.cut_selectors.Goals as goal

pub loop-selector-preserved : goal.loop-selector-preserved
loop-selector-preserved c =
    rw c.in_ok-put_cut.ensures
    (flat_map_step (cut_selector c.args.side.now) c.loop-selector.list c.args.selectors.now c.loop-selector.selector-index
    _ c.loop-selector-test.true
    ∙ c.loop-selector.invariant)

pub returns-clause-list : goal.returns-clause-list
unfolding cut_selectors
returns-clause-list c =
    sym (flat_map_end (cut_selector c.args.side.now) c.loop-selector.list c.args.selectors.now c.loop-selector.selector-index
    c.loop-selector-test.false)
    ∙ c.loop-selector.invariant

pub returns-clause-selectors : goal.returns-clause-selectors
returns-clause-selectors c = cut_selectors-right c.args.side.now c.args.selectors.now c.requires.selectors c.requires.writable

pub returns-clause-few : goal.returns-clause-few
returns-clause-few c = cut_selectors-few c.args.side.now c.args.selectors.now c.requires.selectors c.requires.writable

pub returns-in_err-put_cut-clause-selectors : goal.returns-in_err-put_cut-clause-selectors
returns-in_err-put_cut-clause-selectors c =
    cut_selectors-right c.args.side.now c.args.selectors.now c.requires.selectors c.requires.writable

pub returns-in_err-put_cut-clause-few : goal.returns-in_err-put_cut-clause-few
returns-in_err-put_cut-clause-few c = cut_selectors-few c.args.side.now c.args.selectors.now c.requires.selectors c.requires.writable
