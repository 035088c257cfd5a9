use Rattle.std.proofs.Common.{◌≡◌, ◌+◌, ◌≤◌, true, drop, length}
use Rattle.std.specs.List.{All}
use Rattle.sel_region.specs.Cutting.{cut_all}
use Rattle.spd_cut.specs.Steps.{counts_of, passes}
use Rattle.spd_cut.proofs.cut.cut_by.Given as goal

-- What is left after all cuts, and whether a count passes, is known from what is left now.
abbrev pub invariant-loop-earlier : goal.invariant-loop-earlier
invariant-loop-earlier g l = record {
  cut : cut_all g.R.Region.minus l.pieces (drop l.earlier-index l.earlier-items) ≡ cut_all g.R.Region.minus l.initial.pieces l.earlier-items;
  counts : passes l.room.limit (counts_of g.R.Region.minus l.room.done l.pieces (drop l.earlier-index l.earlier-items))
      ≡ passes l.room.limit (counts_of g.R.Region.minus l.room.done l.initial.pieces l.earlier-items);
  inside : All (λ piece. g.R.Region.within piece l.region ≡ true) l.pieces;
  room : l.room.done + length l.pieces ≤ l.room.limit;
}
