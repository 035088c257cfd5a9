-- The places of a gap's verdicts.
use Rattle.std.specs.Prelude.{◌+◌, ◌≤◌, List, length}
use Rattle.pair_gap.specs.declared.gap.Gap.{Gap}
use Rattle.spd_line.specs.declared.line.LineParts.{LineParts}

-- The verdicts are those of lines of the policies, or of `final` behind them.
pub record HasPlaces (a b : List LineParts) (gap : Gap) : Type 0 where
  pub first_a : 1 ≤ gap.a.line
  pub last_a : gap.a.line ≤ length a + 1
  pub first_b : 1 ≤ gap.b.line
  pub last_b : gap.b.line ≤ length b + 1
