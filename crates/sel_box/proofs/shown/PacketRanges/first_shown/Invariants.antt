-- The rows before show nothing.
use Rattle.std.proofs.Common.{◌≡◌, drop}
use Rattle.sel_box.specs.inner.Shown.{rows_show}
use Rattle.sel_box.proofs.shown.PacketRanges.first_shown.Given as goal

abbrev pub invariant-loop-row : goal.invariant-loop-row
invariant-loop-row l = rows_show l.self (drop l.row-index l.rows) ≡ rows_show l.self l.rows
