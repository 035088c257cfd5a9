use Rattle.std.proofs.Common.{◌≡◌, drop}
use Rattle.std.specs.List.{find}
use Rattle.ts_narrow.specs.Meets.{meets}
use Rattle.ts_narrow.proofs.searching.first_meet.Given as goal

-- The first of the meets is the first of those of the entries to come.
abbrev pub invariant-loop-e : goal.invariant-loop-e
invariant-loop-e g l =
    find (g.T.MeetTest.passes l.test) (meets (drop l.e-index l.outbound) l.inbound)
    ≡ find (g.T.MeetTest.passes l.test) (meets l.outbound l.inbound)
