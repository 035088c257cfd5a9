-- How many rows an axis has.
use Rattle.std.specs.Prelude.{ℕ, ◌+◌, ◌/◌}

-- A row for each part, of which there is one more than starts, and one for each block of 64 parts.
abbrev pub row_count : ℕ → ℕ
row_count starts = starts + 1 + (starts / 64 + 1)
