use Rattle.trace_text.proofs.Tables.{words_of-table, table-place, table-first, table-last}
use Rattle.trace_text.proofs.laws.tables_are_the_rest_of_the_line.Goals as goal

pub returns : goal.returns
returns c = record { words = words_of-table; place = table-place; first = table-first; last = table-last }
