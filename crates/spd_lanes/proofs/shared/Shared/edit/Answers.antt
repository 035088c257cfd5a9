use Rattle.spd_lanes.proofs.Editing.{edit-keeps, edited-is}
use Rattle.spd_lanes.proofs.shared.Shared.edit.Goals as goal

pub invariant_of-self-2 : goal.invariant_of-self-2
invariant_of-self-2 c =
    rw (c.flush.ensures, c.make_stale.ensures)
    (edit-keeps c.self.inside.compiled.lines c.edit.new.self.lines c.self.inside.compiled.limit c.self.inside.cache c.self.inside.lanes
    c.in_ok-edit.ensures.policy c.self.invariant)

pub returns-clause-ok : goal.returns-clause-ok
returns-clause-ok c =
    rw (← c.self.view_is, c.flush.ensures, c.make_stale.ensures, c.in_ok-edit.ensures.limit)
    (edited-is c.self.inside.compiled.lines c.edit.new.self.lines c.self.inside.compiled.limit c.self.inside.cache c.self.inside.lanes
    c.args.change c.in_ok-edit.ensures.ok)
