-- The counts that the files of the machine keep.
use Rattle.std.specs.Prelude.{ℕ}

-- `faults` is how often a read failed, of whatever name.
pub record RealCounts : Type 0 where
  pub faults : ℕ
  pub taken : ℕ
  pub end : ℕ
  pub dry : ℕ
