use Rattle.std.proofs.Common.{sym, rules}
use Rattle.sel_text.proofs.Ports.{span_of_codes}
use Rattle.sel_text.proofs.port.read_span.Goals as goal

pub returns-in-Some-Some : goal.returns-in-Some-Some
returns-in-Some-Some c =
    let meaning = span_of_codes c.args.first.now c.args.last.now c.in-Some-Some.kind.now c.in-Some-Some.code.now c.in-Some-Some.last_kind.now
    c.in-Some-Some.last_code.now (sym c.in-Some-Some.ensures) (sym c.in-Some-Some.ensures') in
    rw meaning (search rules)
