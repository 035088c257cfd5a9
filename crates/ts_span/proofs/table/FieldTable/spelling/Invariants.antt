use Rattle.std.proofs.Common.{◌≡◌, drop}
use Rattle.ts_span.specs.Table.{ports_by}
use Rattle.ts_span.proofs.table.FieldTable.spelling.Given as goal

-- no row so far has the range
abbrev pub invariant-loop-row : goal.invariant-loop-row
invariant-loop-row g l = ports_by l.mobility l.fields (drop l.row-index l.self.rows) ≡ ports_by l.mobility l.fields l.self.rows
