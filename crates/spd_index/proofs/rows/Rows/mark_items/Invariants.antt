use Rattle.std.proofs.Common.{take}
use Rattle.std.specs.List.{list_any}
use Rattle.spd_line.specs.Selects.{address_has}
use Rattle.spd_index.specs.inner.Rows.{Keeps, StandsWhere}
use Rattle.spd_index.proofs.rows.Rows.mark_items.Given as goal

abbrev pub invariant-loop-item : goal.invariant-loop-item
invariant-loop-item l = record {
  kept : Keeps l.initial.self l.self;
  marked : StandsWhere (λ a. list_any (address_has l.family a) (take l.item-index l.items)) l.self l.line;
}
