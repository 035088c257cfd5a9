use Rattle.std.proofs.Common.{◌≡◌, length, sym, ap, ◌∙◌}
use Rattle.std.proofs.lemmas.Bool.{eqb-true}
use Rattle.std.specs.List.{flat_map}
use Rattle.spd_line.specs.LineBoxes.{address_ranges}
use Rattle.spd_line.proofs.Listed.{line_ranges-without_local}
use Rattle.spd_line.proofs.line_boxes.family_products.Goals as goal

pub returns-then-is_empty : goal.returns-then-is_empty
returns-then-is_empty g c =
    let none : length (flat_map (address_ranges c.args.family) c.args.parts.now.local) ≡ 0 =
    ap (λ items. length (flat_map (address_ranges c.args.family) items)) (sym c.as_slice.ensures)
    ∙ ap length (sym c.in_ok-local.ensures) ∙ ap length (sym c.as_slice-2.ensures.value)
    ∙ eqb-true _ _ (sym c.is_empty.ensures ∙ c.if-is_empty.true) in
    c.new.ensures.items ∙ sym (line_ranges-without_local c.args.family c.args.parts.now none)
