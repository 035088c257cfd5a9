use Rattle.std.proofs.Common.{◌≡◌, ◌-◌, drop, length}
use Rattle.cert_check.specs.inner.Scan.{scan}
use Rattle.cert_check.proofs.rule.decided.Given as goal

-- The boxes from the index on decide as all do.
abbrev pub invariant-loop-index : goal.invariant-loop-index
invariant-loop-index l =
    scan l.line l.region (drop l.from l.side.regions) (drop l.from l.side.marks.items) ≡ scan l.line l.region l.side.regions l.side.marks.items

abbrev pub decreases-loop-index : goal.decreases-loop-index
decreases-loop-index l = length l.side.regions - l.from
