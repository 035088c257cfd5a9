use Rattle.std.proofs.Common.{inl, inr, sym, ◌∙◌}
use Rattle.std.proofs.lemmas.Bool.{or_cases}
use Rattle.std.proofs.lemmas.List.{take_all}
use Rattle.std.proofs.lemmas.List.Folds.{list_any_more}
use Rattle.sel_text.specs.declared.item.AddressItem.{AddressItem}
use Rattle.spd_line.specs.Selects.{address_has}
use Rattle.spd_index.proofs.Stands.{Keeps-trans, StandsIn-kept}
use Rattle.spd_index.proofs.rows.Rows.mark_items.Goals as goal

pub loop-item-preserved : goal.loop-item-preserved
loop-item-preserved c =
    let before = c.loop-item.invariant in
    let kept = c.mark_item.ensures.kept in
    record {
      kept = Keeps-trans c.args.self.now c.loop-item.self c.mark_item.new.self before.kept kept;
      marked = λ address part has is.
          let all = list_any_more (address_has c.args.family address) c.args.items.now c.loop-item.item-index AddressItem.Any c.loop-item-test.true in
          elim (or_cases _ _ (sym all ∙ has)) [
            | inl passed ↦ StandsIn-kept c.loop-item.self c.mark_item.new.self part c.args.line kept (before.marked address part passed (rw kept.starts at is))
            | inr here ↦ c.mark_item.ensures.marked address part here is
          ];
    }

pub returns-clause-marked : goal.returns-clause-marked
returns-clause-marked c = λ address part has is.
    c.loop-item.invariant.marked address part (rw (take_all c.loop-item.item-index c.args.items.now c.loop-item-test.false) has) is
