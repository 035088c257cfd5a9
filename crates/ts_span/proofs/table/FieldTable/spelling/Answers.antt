use Rattle.std.proofs.Common.{get_or, sym, rules}
use Rattle.ts_span.specs.declared.table.FieldRow.{FieldRow}
use Rattle.ts_span.specs.declared.table.RowProtocols.TheVariants.{AnyProtocol}
use Rattle.ts_span.specs.declared.table.Spelling.TheVariants.{Nothing}
use Rattle.ts_span.specs.Table.{row_fits}
use Rattle.ts_span.proofs.Rows.{found_fits, found_here, list_all-at}
use Rattle.ts_span.proofs.table.FieldTable.spelling.Goals as goal

abbrev no_row : FieldRow
no_row = record { protocols = AnyProtocol; lows = (0, 0); highs = (0, 0); spelling = Nothing }

pub returns-then-has-clause-fits : goal.returns-then-has-clause-fits
returns-then-has-clause-fits g c =
    found_fits c.args.mobility c.args.fields (get_or c.args.self.now.rows c.loop-row.row-index no_row)
    (list_all-at row_fits c.args.self.now.rows c.loop-row.row-index no_row c.args.self.now.fitting (search rules)) (sym c.if-has.ensures)

pub returns-then-has-clause-ports : goal.returns-then-has-clause-ports
returns-then-has-clause-ports g c =
    found_here c.args.mobility c.args.fields c.args.self.now.rows c.loop-row.row-index no_row (search rules) c.loop-row.invariant (sym c.if-has.ensures)
