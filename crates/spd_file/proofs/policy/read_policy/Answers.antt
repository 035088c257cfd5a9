use Rattle.toml.specs.Parse.{parse_document}
use Rattle.toml.specs.View.{table_view}
use Rattle.spd_file.proofs.Parses.{parsed-found}
use Rattle.spd_file.proofs.policy.read_policy.Goals as goal

pub returns-in-Ok-table_from_str-clause-lines : goal.returns-in-Ok-table_from_str-clause-lines
returns-in-Ok-table_from_str-clause-lines c =
    rw (parsed-found parse_document c.args.bytes.now c.in-Ok.text.now (table_view c.in-Ok-table_from_str.table)
    c.in-Ok.ensures.cases.0 c.in-Ok.ensures.cases.1 c.in-Ok-table_from_str.ensures.ok) c.read_table.ensures.lines

pub returns-in-Ok-table_from_str-clause-fault : goal.returns-in-Ok-table_from_str-clause-fault
returns-in-Ok-table_from_str-clause-fault c =
    rw (parsed-found parse_document c.args.bytes.now c.in-Ok.text.now (table_view c.in-Ok-table_from_str.table)
    c.in-Ok.ensures.cases.0 c.in-Ok.ensures.cases.1 c.in-Ok-table_from_str.ensures.ok) c.read_table.ensures.fault
