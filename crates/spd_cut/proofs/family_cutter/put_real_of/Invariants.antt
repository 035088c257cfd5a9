use Rattle.std.proofs.Common.{◌≡◌, ◌++◌, drop, filter, map}
use Rattle.sel_box.specs.SomePoint.{has_real_point}
use Rattle.spd_cut.specs.Entries.{piece_of}
use Rattle.spd_cut.proofs.family_cutter.put_real_of.Given as goal

-- What is put, and then what the pieces that are left give, is what all pieces give.
abbrev pub invariant-loop-piece : goal.invariant-loop-piece
invariant-loop-piece g l =
    l.entries ++ map (λ r. piece_of l.uncut (g.R.OfFamily.region r))
    (filter (λ r. has_real_point (g.R.OfFamily.region r)) (drop l.piece-index l.pieces))
    ≡ l.initial.entries ++ map (λ r. piece_of l.uncut (g.R.OfFamily.region r))
    (filter (λ r. has_real_point (g.R.OfFamily.region r)) l.pieces)
