use Rattle.std.proofs.Common.{◌≡◌, ◌∙◌, drop, length, sym, arith}
use Rattle.std.proofs.lemmas.Bool.Decides.{nat_tests}
use Rattle.std.proofs.lemmas.List.{nil_from_length}
use Rattle.std.proofs.lemmas.Result.{err_from_is_err_and}
use Rattle.sel_blocks.specs.Joined.{joined}
use Rattle.spd_cut.proofs.Passed.{IsLineFault-at, IsLineFault-more, cut_all-block, cut_all-of_nothing, passes-first, passes-later_block}
use Rattle.spd_cut.proofs.Passed.{passes-of_nothing, passes-this_block, within-cut_all}
use Rattle.spd_cut.proofs.cut.cut_out.Goals as goal

pub returns-in_err-check-clause-limit : goal.returns-in_err-check-clause-limit
returns-in_err-check-clause-limit g c =
    let p = err_from_is_err_and c.from_residual.result c.from_residual.ensures.1 in
    rw (p.1, p.2, ← c.requires.whole)
    (IsLineFault-at _ c.args.room.line c.in_err-check.field-0.0 c.in_err-check.ensures.limit
    (passes-first g.R.Region.minus c.args.room.limit c.args.room.done c.args.pieces.now c.args.earlier.now c.in_err-check.ensures.passed))

pub returns-then-is_empty-clause-cut : goal.returns-then-is_empty-clause-cut
returns-then-is_empty-clause-cut g c =
    let pieces = c.loop-block.pieces in
    let empty : length pieces ≡ 0 = grind (arith, nat_tests, c.if-is_empty.ensures) in
    rw (← c.requires.whole, ← c.blocks-block-items.ensures)
    (cut_all-of_nothing g.R.Region.minus pieces (joined (drop c.loop-block.block-index c.blocks-block-items.result.now)) (nil_from_length pieces empty)
    ∙ c.loop-block.invariant.cut)

pub returns-then-is_empty-clause-within : goal.returns-then-is_empty-clause-within
returns-then-is_empty-clause-within g c =
    let pieces = c.loop-block.pieces in
    let empty : length pieces ≡ 0 = grind (arith, nat_tests, c.if-is_empty.ensures) in
    rw (← c.requires.whole, ← c.blocks-block-items.ensures)
    (sym c.loop-block.invariant.counts
    ∙ passes-of_nothing g.R.Region.minus c.args.room.limit c.args.room.done pieces
    (joined (drop c.loop-block.block-index c.blocks-block-items.result.now)) (nil_from_length pieces empty) c.loop-block.invariant.room)

pub returns-in_err-cut_by-clause-limit : goal.returns-in_err-cut_by-clause-limit
returns-in_err-cut_by-clause-limit g c =
    let p = err_from_is_err_and c.from_residual-in_err-cut_by.result c.from_residual-in_err-cut_by.ensures.1 in
    rw (p.1, p.2, ← c.requires.whole, ← c.blocks-block-items.ensures)
    (IsLineFault-more _ _ c.args.room.line c.in_err-cut_by.field-0.0
    (λ some. sym c.loop-block.invariant.counts
    ∙ passes-this_block g.R.Region.minus c.args.room.limit c.args.room.done c.loop-block.pieces c.blocks-block-items.result.now
    c.loop-block.block-index c.block-item.result c.loop-block-test.true c.block-item.is some)
    c.in_err-cut_by.ensures.limit)

pub loop-block-preserved : goal.loop-block-preserved
loop-block-preserved g c =
    let minus = g.R.Region.minus in
    let pieces = c.loop-block.pieces in
    let blocks = c.blocks-block-items.result.now in
    let block = c.block-item.result in
    let before = c.loop-block.invariant in
    rw c.in_ok-cut_by.ensures.cut record {
      cut = cut_all-block minus pieces blocks c.loop-block.block-index block c.loop-block-test.true c.block-item.is ∙ before.cut;
      counts = passes-later_block minus c.args.room.limit c.args.room.done pieces blocks c.loop-block.block-index block
          c.loop-block-test.true c.block-item.is c.in_ok-cut_by.ensures.within
          ∙ before.counts;
      inside = within-cut_all g.met.R.Region.laws c.args.region.now pieces block before.inside;
      room = rw c.in_ok-cut_by.ensures.cut at c.in_ok-cut_by.ensures.room;
    }
