use Rattle.std.proofs.Common.{ℕ, ◌+◌, ◌-◌, ◌<◌, ◌≤◌}
use Rattle.spd_index.specs.inner.Rows.{Keeps, StandsIn}
use Rattle.spd_index.proofs.rows.Rows.mark.Given as goal

abbrev pub invariant-loop-part : goal.invariant-loop-part
invariant-loop-part l = record {
  kept : Keeps l.initial.self l.self;
  marked : (part : ℕ) → l.first ≤ part → part < l.part → StandsIn l.self part l.line;
}

abbrev pub decreases-loop-part : goal.decreases-loop-part
decreases-loop-part l = l.last + 1 - l.part
