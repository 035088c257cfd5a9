-- What can be printed of an answer.
use Rattle.std.specs.Prelude.{ℕ, ◌+◌, ◌≤◌, List, length}
use Rattle.ts_narrow.specs.declared.narrowed.Narrowed.{Narrowed}
use Rattle.ts_narrow.specs.declared.narrowed.Narrowed.TheVariants.{Pair, Unacceptable}
use Rattle.ts_payload.specs.declared.selector.Ts.{Ts}
use Rattle.ts_payload.specs.Selector.{AreSelectors}

-- The line is one of so many, or `final` behind them, and payloads can have and count the selectors.
pub record IsPrintable (count : ℕ) (tsi tsr : List Ts) (link : ℕ) : Type 0 where
  pub first : 1 ≤ link
  pub last : link ≤ count + 1
  pub tsi_right : AreSelectors tsi
  pub tsr_right : AreSelectors tsr
  pub few_tsi : length tsi ≤ 255
  pub few_tsr : length tsr ≤ 255

-- The same of an answer.
abbrev pub CanPrint : ℕ → Narrowed → Type 0
CanPrint count Unacceptable = Unit {0}
CanPrint count (Pair tsi tsr link additional) = IsPrintable count tsi tsr link
