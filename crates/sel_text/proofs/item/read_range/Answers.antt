use Rattle.std.proofs.Common.{sym, ◌∙◌}
use Rattle.sel_text.proofs.Items.{range_of_family, range_of_families, same_from_beq, apart_from_beq}
use Rattle.sel_text.proofs.item.read_range.Goals as goal

pub returns-then-has_colon : goal.returns-then-has_colon
returns-then-has_colon c =
    let same = same_from_beq c.has_colon.result c.has_colon-2.result c.if-has_colon.true in
    let meaning = range_of_family c.args.first.now c.args.last.now (sym c.has_colon.ensures ∙ same ∙ c.has_colon-2.ensures) in
    rw (meaning, c.in_order.ensures, c.both.ensures, c.read_address.ensures, c.read_address-then-has_colon.ensures)

pub returns-else-has_colon : goal.returns-else-has_colon
returns-else-has_colon c =
    let apart = apart_from_beq c.has_colon.result c.has_colon-2.result c.if-has_colon.false in
    sym (range_of_families c.args.first.now c.args.last.now (λ same. apart (c.has_colon.ensures ∙ same ∙ sym c.has_colon-2.ensures)))
