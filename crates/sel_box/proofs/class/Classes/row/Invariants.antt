-- The rows that are left follow one another from a protocol that isn't past the one that is sought.
use Rattle.std.proofs.Common.{◌≡◌, ◌≤◌, ℕ, true, drop}
use Rattle.sel_box.specs.Classes.{rows_follow}
use Rattle.sel_box.proofs.class.Classes.row.Given as goal

abbrev pub invariant-loop-row : goal.invariant-loop-row
invariant-loop-row g l =
    (next : ℕ) × (next ≤ l.protocol) × (rows_follow next (drop l.row-index l.self.rows) ≡ true)
