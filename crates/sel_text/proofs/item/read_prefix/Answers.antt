use Rattle.std.proofs.Common.{sym, ◌∙◌, rules}
use Rattle.sel_text.proofs.Items.{prefix_as_six, prefix_as_four}
use Rattle.sel_text.proofs.item.read_prefix.Goals as goal

pub returns-then-has_colon : goal.returns-then-has_colon
returns-then-has_colon c =
    let meaning = prefix_as_six c.args.address.now c.args.length.now (sym c.has_colon.ensures ∙ c.if-has_colon.true) in
    rw meaning (search rules)

pub returns-else-has_colon : goal.returns-else-has_colon
returns-else-has_colon c =
    let meaning = prefix_as_four c.args.address.now c.args.length.now (sym c.has_colon.ensures ∙ c.if-has_colon.false) in
    rw meaning (search rules)
