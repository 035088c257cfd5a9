use Rattle.std.proofs.Common.{refl, sym}
use Rattle.spd_order.proofs.MayEdit.{may_insert}
use Rattle.spd_order.proofs.Entries.{absent, put_in}
use Rattle.spd_order.proofs.spd.Spd.insert.Goals as goal

pub insert_at-requires-clause-absent : goal.insert_at-requires-clause-absent
insert_at-requires-clause-absent c =
    let may = may_insert c.args.place c.args.line c.args.self.now (sym c.in_default.ensures) in
    absent c.self.inside.table.entries c.args.line.name c.self.invariant.own (rw c.self.view_is may.free)

pub invariant_of-self-2 : goal.invariant_of-self-2
invariant_of-self-2 c =
    let may = may_insert c.args.place c.args.line c.args.self.now (sym c.in_default.ensures) in
    (put_in c.self.inside.table.entries _ _ _ _ c.self.view_is c.self.invariant may c.in_default-insert_at.ensures.ok).keeps

pub returns-clause-ok : goal.returns-clause-ok
returns-clause-ok c =
    let may = may_insert c.args.place c.args.line c.args.self.now (sym c.in_default.ensures) in
    rw (may.gives, (put_in c.self.inside.table.entries _ _ _ _ c.self.view_is c.self.invariant may c.in_default-insert_at.ensures.ok).lines_are) refl

pub returns-clause-policy : goal.returns-clause-policy
returns-clause-policy c = (invariant_of-self-2 c).policy
