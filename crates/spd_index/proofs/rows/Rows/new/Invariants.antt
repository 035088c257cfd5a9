use Rattle.std.proofs.Common.{◌≡◌, ℕ, ◌+◌, ◌*◌, ◌<◌, ◌≤◌, Some, length}
use Rattle.std.specs.List.{list_any, slice_get}
use Rattle.spd_line.specs.declared.line.LineParts.{LineParts}
use Rattle.spd_line.specs.Selects.{address_has}
use Rattle.spd_index.specs.inner.Ends.{items_of}
use Rattle.spd_index.specs.inner.Rows.{StandsWhere}
use Rattle.spd_index.proofs.rows.Rows.new.Given as goal

abbrev pub invariant-loop-place : goal.invariant-loop-place
invariant-loop-place g l = record {
  wide : length (g.L.Lines.lines l.lines) ≤ 64 * l.rows.width;
  held : (k : ℕ) (line : LineParts) → k + 1 < l.place → slice_get (g.L.Lines.lines l.lines) k ≡ Some line →
      StandsWhere (λ a. list_any (address_has l.family a) (items_of l.side line)) l.rows k;
}
