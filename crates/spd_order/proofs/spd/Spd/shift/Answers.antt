use Rattle.std.proofs.Common.{◌≡◌, length, true, refl, sym}
use Rattle.spd_order.specs.Edits.{is_place}
use Rattle.spd_order.proofs.Entries.{found_in_table, moved_to}
use Rattle.spd_order.proofs.spd.Spd.shift.Goals as goal

pub invariant_of-self : goal.invariant_of-self
invariant_of-self c =
    let fits : is_place c.args.place (length c.args.self.now) ≡ true = rw (← c.count.ensures.count) (sym c.if-not-is_place.ensures) in
    (moved_to c.self.inside.table.entries _ _ _ _ c.self.view_is c.self.invariant c.in-Some.ensures.within fits c.move_line.ensures).keeps

pub returns-clause-ok : goal.returns-clause-ok
returns-clause-ok c =
    let fits : is_place c.args.place (length c.args.self.now) ≡ true = rw (← c.count.ensures.count) (sym c.if-not-is_place.ensures) in
    rw (found_in_table c.self.inside.table c.args.name.now c.in-Some.index c.args.self.now c.self.view_is c.self.invariant.own c.in-Some.ensures.index, fits)
    (rw (moved_to c.self.inside.table.entries _ _ _ _ c.self.view_is c.self.invariant c.in-Some.ensures.within fits c.move_line.ensures).lines_are refl)

pub returns-clause-policy : goal.returns-clause-policy
returns-clause-policy c = (invariant_of-self c).policy
