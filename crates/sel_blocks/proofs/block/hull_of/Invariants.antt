use Rattle.std.proofs.Common.{◌≡◌, true, take}
use Rattle.std.specs.List.{All}
use Rattle.sel_blocks.proofs.block.hull_of.Given as goal

-- The regions so far are within the hull.
abbrev pub invariant-loop-region : goal.invariant-loop-region
invariant-loop-region g l = All (λ r. g.R.Region.within r l.hull ≡ true) (take l.region-index l.regions)
