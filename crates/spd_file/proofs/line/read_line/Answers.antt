use Rattle.toml.specs.Parse.{parse_value}
use Rattle.toml.specs.View.{view}
use Rattle.spd_file.proofs.Parses.{parsed-found}
use Rattle.spd_file.proofs.line.read_line.Goals as goal

pub returns-in-Ok-from_str-clause-line : goal.returns-in-Ok-from_str-clause-line
returns-in-Ok-from_str-clause-line c =
    rw (parsed-found parse_value c.args.text.now c.in-Ok.text.now (view c.in-Ok-from_str.value)
    c.in-Ok.ensures.cases.0 c.in-Ok.ensures.cases.1 c.in-Ok-from_str.ensures.ok) c.read_value.ensures.line

pub returns-in-Ok-from_str-clause-fault : goal.returns-in-Ok-from_str-clause-fault
returns-in-Ok-from_str-clause-fault c =
    rw (parsed-found parse_value c.args.text.now c.in-Ok.text.now (view c.in-Ok-from_str.value)
    c.in-Ok.ensures.cases.0 c.in-Ok.ensures.cases.1 c.in-Ok-from_str.ensures.ok) c.read_value.ensures.fault
