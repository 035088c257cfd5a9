use Rattle.std.proofs.Common.{◌≡◌, nat_lt, length, drop}
use Rattle.sel_blocks.specs.Joined.{joined}
use Rattle.sel_blocks.proofs.blocks.Blocks.are_more_than.Given as goal

-- There are more regions than asked exactly where more are left than there is room for.
abbrev pub invariant-loop-block : goal.invariant-loop-block
invariant-loop-block g l =
    nat_lt l.room (length (joined (drop l.block-index l.block-items))) ≡ nat_lt l.most (length (joined l.block-items))
