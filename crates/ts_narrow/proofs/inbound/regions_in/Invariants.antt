use Rattle.std.proofs.Common.{◌≡◌, ◌++◌, drop}
use Rattle.ts_narrow.specs.inner.Listed.{regions_in}
use Rattle.ts_narrow.proofs.inbound.regions_in.Given as goal

-- What was put, and then the regions of the entries that are left, are those of all.
abbrev pub invariant-loop-entry : goal.invariant-loop-entry
invariant-loop-entry l = l.list ++ regions_in (drop l.entry-index l.entries) ≡ regions_in l.entries
