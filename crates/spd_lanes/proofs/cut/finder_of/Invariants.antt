use Rattle.std.proofs.Common.{◌≡◌, ◌++◌, drop}
use Rattle.spd_lanes.specs.inner.Cuts.{regions}
use Rattle.spd_lanes.proofs.cut.finder_of.Given as goal

-- The regions so far, and then those of the entries that are left, are those of all.
abbrev pub invariant-loop-entry : goal.invariant-loop-entry
invariant-loop-entry l = l.list ++ regions (drop l.entry-index l.entries) ≡ regions l.entries
