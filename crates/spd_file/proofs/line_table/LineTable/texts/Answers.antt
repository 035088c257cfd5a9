use Rattle.std.proofs.Common.{sym, ◌∙◌}
use Rattle.spd_file.proofs.Texts.{texts_in-each}
use Rattle.spd_file.proofs.line_table.LineTable.texts.Goals as goal

pub returns-clause-items : goal.returns-clause-items
returns-clause-items g c =
    rw (texts_in-each g.T.Item.meaning c.args.values.now (sym c.are_texts.ensures ∙ c.if-not-are_texts.false)
    (sym c.is_empty.ensures ∙ c.if-is_empty.false)) c.items_of.ensures.items

pub returns-clause-fault : goal.returns-clause-fault
returns-clause-fault g c =
    rw (texts_in-each g.T.Item.meaning c.args.values.now (sym c.are_texts.ensures ∙ c.if-not-are_texts.false)
    (sym c.is_empty.ensures ∙ c.if-is_empty.false)) c.items_of.ensures.fault
