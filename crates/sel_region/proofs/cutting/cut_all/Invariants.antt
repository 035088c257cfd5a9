use Rattle.std.proofs.Common.{◌≡◌, take}
use Rattle.sel_region.specs.Cutting.{cut_all}
use Rattle.sel_region.proofs.cutting.cut_all.Given as goal

abbrev pub invariant-loop-region : goal.invariant-loop-region
invariant-loop-region g l =
    l.pieces.items ≡ cut_all g.R.Region.minus l.initial.pieces.items (take l.region-index l.regions)
