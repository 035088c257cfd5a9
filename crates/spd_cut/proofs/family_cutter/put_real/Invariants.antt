use Rattle.std.proofs.Common.{◌≡◌, ◌++◌, drop, filter, map}
use Rattle.sel_blocks.specs.Joined.{joined}
use Rattle.sel_box.specs.SomePoint.{has_real_point}
use Rattle.spd_cut.specs.Entries.{piece_of}
use Rattle.spd_cut.proofs.family_cutter.put_real.Given as goal

-- What is put, and then what the blocks that are left give, is what all give.
abbrev pub invariant-loop-block : goal.invariant-loop-block
invariant-loop-block g l =
    l.entries ++ map (λ r. piece_of l.uncut (g.R.OfFamily.region r))
    (filter (λ r. has_real_point (g.R.OfFamily.region r)) (joined (drop l.block-index l.block-items)))
    ≡ l.initial.entries ++ map (λ r. piece_of l.uncut (g.R.OfFamily.region r))
    (filter (λ r. has_real_point (g.R.OfFamily.region r)) (joined l.block-items))
