use Rattle.std.proofs.Common.{sym, ◌∙◌, rules}
use Rattle.sel_text.proofs.Items.{item_of_address}
use Rattle.sel_text.proofs.item.read_addresses.Goals as goal

pub returns-in-None : goal.returns-in-None
returns-in-None c =
    let meaning = item_of_address c.args.text.now (sym c.eq.ensures ∙ c.if-eq.false) (sym c.in_default.ensures) (sym c.in-None.ensures) in
    rw meaning (search rules)
