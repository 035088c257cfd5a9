use Rattle.std.proofs.Common.{◌≡◌, ◌++◌, drop}
use Rattle.ts_narrow.specs.Meets.{meets, regions_of}
use Rattle.ts_narrow.proofs.line_meets.regions_of.Given as goal

-- What was put, and then what the entries that are left give, is what all give.
abbrev pub invariant-loop-e : goal.invariant-loop-e
invariant-loop-e l =
    l.list ++ regions_of l.link (meets (drop l.e-index l.outbound) l.inbound) ≡ regions_of l.link (meets l.outbound l.inbound)
