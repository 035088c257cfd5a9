use Rattle.sel_tree.specs.FirstMet.{NoneMet}
use Rattle.sel_tree.proofs.search.first_met_between.Given as goal

-- No box so far meets the region.
abbrev pub invariant-loop-at : goal.invariant-loop-at
invariant-loop-at l = NoneMet l.from l.at l.region l.regions
