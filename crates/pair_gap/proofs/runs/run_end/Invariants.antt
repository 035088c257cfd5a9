use Rattle.std.proofs.Common.{◌-◌, ◌≤◌, length}
use Rattle.pair_gap.specs.inner.Peer.{IsRun}
use Rattle.pair_gap.proofs.runs.run_end.Given as goal

-- The entries before the end are judged as the first is.
abbrev pub invariant-loop-end : goal.invariant-loop-end
invariant-loop-end l = record {
  run : IsRun l.entries l.from l.end;
  within : l.end ≤ length l.entries;
}

abbrev pub decreases-loop-end : goal.decreases-loop-end
decreases-loop-end l = length l.entries - l.end
