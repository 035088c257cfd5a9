use Rattle.std.proofs.Common.{refl}
use Rattle.sel_box.specs.Point.{IsReal, view_of}
use Rattle.spd_lanes.proofs.Asking.{asked-is, asked-returns, keeps-asked}
use Rattle.spd_lanes.proofs.shared.Shared.packet.Goals as goal

pub invariant_of-self : goal.invariant_of-self
invariant_of-self c =
    keeps-asked c.self.inside.compiled.lines c.self.inside.compiled.limit c.self.inside.cache c.self.inside.lanes c.args.direction c.args.packet.now
    c.ask.result c.ask.new.cache c.groups_have_the_points_of_their_keys.ensures c.self.invariant c.ask.ensures.ok c.ask.ensures.err

pub returns-clause-ok : goal.returns-clause-ok
returns-clause-ok c =
    let lines = c.self.inside.compiled.lines in
    let limit = c.self.inside.compiled.limit in
    let cache = c.self.inside.cache in
    let lanes = c.self.inside.lanes in
    let d = c.args.direction in
    let p = c.args.packet.now in
    let real : IsReal (view_of d p) = (d, (p, (c.family.ensures.packet, refl))) in
    rw (← c.self.view_is)
    (asked-returns lines limit cache lanes d p c.ask.result c.ask.new.cache
    (asked-is lines limit cache lanes d p
    (c.groups_answer_by_the_key_of_a_point.ensures d (view_of d p) lines cache.entries real c.self.invariant.groups))
    c.ask.ensures.ok)

pub ask-requires : goal.ask-requires
ask-requires c = record {
  alike = c.groups_answer_alike.ensures c.args.direction (view_of c.args.direction c.args.packet.now) c.self.inside.compiled.lines
      c.self.inside.cache.entries (c.args.direction, (c.args.packet.now, (c.family.ensures.packet, refl))) c.self.invariant.groups;
}
