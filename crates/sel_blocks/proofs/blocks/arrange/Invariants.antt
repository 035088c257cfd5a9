use Rattle.std.proofs.Common.{◌≡◌, ◌≤◌, vec_len}
use Rattle.sel_blocks.specs.Joined.{joined}
use Rattle.sel_blocks.proofs.blocks.arrange.Given as goal

abbrev pub invariant-loop-at : goal.invariant-loop-at
invariant-loop-at g l = record {
  same : joined l.blocks.items ≡ joined l.initial.blocks.items;
  below : l.at ≤ vec_len l.blocks;
}

abbrev pub decreases-loop-at : goal.decreases-loop-at
decreases-loop-at g l = l.at
