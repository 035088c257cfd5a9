use Rattle.std.proofs.Common.{◌≡◌, ◌++◌, map, take, drop}
use Rattle.sel_region.specs.Cutting.{cut_each}
use Rattle.sel_blocks.proofs.blocks.cut_blocks.Given as goal

-- The blocks before are cut, and the others stand as they were.
abbrev pub invariant-loop-block : goal.invariant-loop-block
invariant-loop-block g l =
    l.block-items ≡ map (λ block. cut_each g.R.Region.minus block l.other) (take l.block-index l.initial.block-items)
    ++ drop l.block-index l.initial.block-items
