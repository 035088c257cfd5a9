use Rattle.std.proofs.Common.{sym, ◌∙◌, rules}
use Rattle.sel_text.proofs.Ports.{value_of_code}
use Rattle.sel_text.proofs.port.read_value.Goals as goal

pub returns-else-eq : goal.returns-else-eq
returns-else-eq c =
    let meaning = value_of_code c.args.text.now c.in-Some.kind.now c.in-Some.code.now (sym c.in-Some.ensures) (sym c.eq.ensures ∙ c.if-eq.false) in
    rw meaning (search rules)
