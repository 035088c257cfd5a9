use Rattle.std.proofs.Common.{◌≡◌, ◌+◌, ◌≤◌, true, drop, length}
use Rattle.std.specs.List.{All}
use Rattle.sel_region.specs.Cutting.{cut_all}
use Rattle.sel_blocks.specs.Joined.{joined}
use Rattle.spd_cut.specs.Steps.{counts_of, passes}
use Rattle.spd_cut.proofs.cut.cut_out.Given as goal

-- What is left after all cuts, and whether a count passes, is known from what is left now.
abbrev pub invariant-loop-block : goal.invariant-loop-block
invariant-loop-block g l = record {
  cut : cut_all g.R.Region.minus l.pieces (joined (drop l.block-index l.block-items))
      ≡ cut_all g.R.Region.minus l.initial.pieces (joined l.block-items);
  counts : passes l.room.limit (counts_of g.R.Region.minus l.room.done l.pieces (joined (drop l.block-index l.block-items)))
      ≡ passes l.room.limit (counts_of g.R.Region.minus l.room.done l.initial.pieces (joined l.block-items));
  inside : All (λ piece. g.R.Region.within piece l.region ≡ true) l.pieces;
  room : l.room.done + length l.pieces ≤ l.room.limit;
}
