use Rattle.std.proofs.Common.{List, ◌∙◌, ap, length, take, arith}
use Rattle.std.proofs.lemmas.List.{get_or_default}
use Rattle.std.proofs.lemmas.List.Edits.{map_over_more}
use Rattle.std.proofs.lemmas.Result.{err_from_is_err_and}
use Rattle.sel_region.specs.Cutting.{cut_each}
use Rattle.sel_blocks.specs.Joined.{joined}
use Rattle.sel_blocks.proofs.Joins.{cut_all_blocks, cut_first_blocks, joined-cut, joined-cut_first}
use Rattle.sel_blocks.proofs.blocks.cut_blocks.Goals as goal

pub loop-block-preserved : goal.loop-block-preserved
loop-block-preserved g c =
    let cut = λ (block : List g.row.R.Denot). cut_each g.R.Region.minus block c.args.other.now in
    rw (c.in_ok-cut.ensures.ok, ← c.block-item.is)
    (map_over_more cut c.deref_mut-block-items.result.now c.loop-block.block-items c.loop-block.block-index c.block-item.result
    (omega arith) c.loop-block.invariant c.block-item.is)

pub returns : goal.returns
returns g c =
    let cut = λ (block : List g.row.R.Denot). cut_each g.R.Region.minus block c.args.other.now in
    let lent = c.deref_mut-block-items.ensures in
    record {
      ok = ap joined
          (cut_all_blocks cut c.loop-block.block-items c.args.blocks.now.items c.loop-block.block-index c.args.blocks.now.len
          (rw lent.value at c.loop-block.invariant) (rw lent.value at c.loop-block-test.false) (c.loop-block.auto.block-items ∙ lent.len))
          ∙ joined-cut g.R.Region.minus c.args.other.now c.args.blocks.now.items;
      err = tt;
    }

pub returns-in_err-cut-clause-err : goal.returns-in_err-cut-clause-err
returns-in_err-cut-clause-err g c =
    let cut = λ (block : List g.row.R.Denot). cut_each g.R.Region.minus block c.args.other.now in
    let lent = c.deref_mut-block-items.ensures in
    let items = c.loop-block.block-items in
    let i = c.loop-block.block-index in
    let p = err_from_is_err_and c.from_residual.result c.from_residual.ensures.1 in
    rw p.1 (
      length (joined (take i c.args.blocks.now.items)),
      ap joined
          (cut_first_blocks cut items c.args.blocks.now.items i c.args.blocks.now.len c.cut.new.self
          (rw lent.value at c.loop-block.invariant)
          (c.in_err-cut.ensures.err ∙ get_or_default items i c.block-item.result c.cut.new.self (omega arith))
          (c.loop-block.auto.block-items ∙ lent.len))
          ∙ joined-cut_first g.R.Region.minus c.args.other.now c.args.blocks.now.items i,
    )
