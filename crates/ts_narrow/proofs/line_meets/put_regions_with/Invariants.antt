use Rattle.std.proofs.Common.{◌≡◌, ◌++◌, ◌-◌, drop, length}
use Rattle.ts_narrow.specs.Meets.{meets_with, regions_of}
use Rattle.ts_narrow.proofs.line_meets.put_regions_with.Given as goal

-- What was put, and then what the inbound entries from the index on give, is what all give.
abbrev pub invariant-loop-index : goal.invariant-loop-index
invariant-loop-index l =
    l.list ++ regions_of l.link (meets_with l.e (drop l.from l.inbound)) ≡ l.initial.list ++ regions_of l.link (meets_with l.e l.inbound)

abbrev pub decreases-loop-index : goal.decreases-loop-index
decreases-loop-index l = length l.inbound - l.from
