-- The line of a refusal on the error sink.
use Rattle.std.specs.Prelude.{◌≡◌, ℕ, List, Option, Some, None, ◌⊎◌}
use Rattle.pair_io.specs.Counts.{Rose}
use Rattle.pair_io.specs.Gains.{Gains, GainsPrefix}
use Rattle.audit_top.specs.declared.outcome.Outcome.{Outcome}
use Rattle.audit_top.specs.ErrorLine.{error_line}

-- A line went out whole, or a prefix of it and the sink counted a fault.
abbrev pub ReportsLine : Option (List ℕ) → Option (List ℕ) → Option (List ℕ) → ℕ → ℕ → Type 0
ReportsLine None before now faults faults' = now ≡ before
ReportsLine (Some line) before now faults faults' =
    Gains before now line ⊎ (GainsPrefix before now line × Rose faults faults')

-- The line of the outcome, where it has one, and nothing else.
abbrev pub Reports : Outcome → Option (List ℕ) → Option (List ℕ) → ℕ → ℕ → Type 0
Reports outcome = ReportsLine (error_line outcome)
