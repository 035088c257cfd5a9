use Rattle.std.proofs.Common.{◌≡◌, ◌++◌, drop, flat_map}
use Rattle.sel_region.proofs.cutting.append_cut.Given as goal

abbrev pub invariant-loop-piece : goal.invariant-loop-piece
invariant-loop-piece g l =
    l.left.items ++ flat_map (λ piece. g.R.Region.minus piece l.region) (drop l.piece-index l.pieces)
    ≡ l.initial.left.items ++ flat_map (λ piece. g.R.Region.minus piece l.region) l.pieces
