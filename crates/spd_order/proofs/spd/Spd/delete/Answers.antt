use Rattle.std.proofs.Common.{refl}
use Rattle.spd_order.proofs.Entries.{found_in_table, taken_out}
use Rattle.spd_order.proofs.spd.Spd.delete.Goals as goal

pub invariant_of-self : goal.invariant_of-self
invariant_of-self c =
    (taken_out c.self.inside.table.entries _ _ _ _ c.self.view_is c.self.invariant c.remove_at.ensures.line c.remove_at.ensures.entries).keeps

pub returns-clause-ok : goal.returns-clause-ok
returns-clause-ok c =
    rw (found_in_table c.self.inside.table c.args.name.now c.in-Some.index c.args.self.now c.self.view_is c.self.invariant.own c.in-Some.ensures.index)
    (rw (taken_out c.self.inside.table.entries _ _ _ _ c.self.view_is c.self.invariant c.remove_at.ensures.line c.remove_at.ensures.entries).lines_are refl)

pub returns-clause-policy : goal.returns-clause-policy
returns-clause-policy c = (invariant_of-self c).policy
