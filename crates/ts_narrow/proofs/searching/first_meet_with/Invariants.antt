use Rattle.std.proofs.Common.{◌≡◌, ◌-◌, drop, length}
use Rattle.std.specs.List.{find}
use Rattle.ts_narrow.specs.Meets.{meets_with}
use Rattle.ts_narrow.proofs.searching.first_meet_with.Given as goal

-- The first of the meets is the first of those with the entries from the index on.
abbrev pub invariant-loop-index : goal.invariant-loop-index
invariant-loop-index g l =
    find (g.T.MeetTest.passes l.test) (meets_with l.e (drop l.from l.inbound))
    ≡ find (g.T.MeetTest.passes l.test) (meets_with l.e l.inbound)

abbrev pub decreases-loop-index : goal.decreases-loop-index
decreases-loop-index g l = length l.inbound - l.from
