use Rattle.std.proofs.Common.{◌<◌, get_or, length, refl, arith}
use Rattle.std.proofs.lemmas.List.{get_or_default}
use Rattle.sel_box.specs.Point.{IsReal, view_of}
use Rattle.spd_lanes.specs.declared.lane.LaneState.{LaneState}
use Rattle.spd_lanes.specs.Lane.{take_step}
use Rattle.spd_lanes.proofs.Following.{keeps-after, returns-after}
use Rattle.spd_lanes.proofs.Taking.{take-keeps, taken-is}
use Rattle.spd_lanes.proofs.shared.Shared.take.Goals as goal

pub invariant_of-self : goal.invariant_of-self
invariant_of-self c =
    let lines = c.self.inside.compiled.lines in
    let state : LaneState = get_or c.self.inside.lanes c.args.lane c.index-self-lane.result in
    keeps-after lines c.self.inside.lanes c.args.lane (take_step c.args.direction c.args.packet.now c.self.inside.cache state)
    c.self.inside.cache c.take.new.cache c.take.new.lane c.index-self-lane.result c.take.result
    (take-keeps lines c.self.inside.compiled.limit c.self.inside.cache c.self.inside.lanes c.args.lane c.args.direction c.args.packet.now state
    c.self.invariant)
    c.self.invariant c.take.ensures.ok c.take.ensures.cache c.take.ensures.lane

pub returns-clause-ok : goal.returns-clause-ok
returns-clause-ok c =
    let lines = c.self.inside.compiled.lines in
    let lanes = c.self.inside.lanes in
    let cache = c.self.inside.cache in
    let state : LaneState = get_or lanes c.args.lane c.index-self-lane.result in
    let below : c.args.lane < length lanes = omega (arith, c.self.invariant.sixteen) in
    let real : IsReal (view_of c.args.direction c.args.packet.now) = (c.args.direction, (c.args.packet.now, (c.family.ensures.packet, refl))) in
    rw (← c.self.view_is)
    (returns-after lines lanes c.args.lane (take_step c.args.direction c.args.packet.now cache state)
    cache c.take.new.cache c.take.new.lane c.index-self-lane.result c.self.inside.compiled.limit c.take.result _
    (taken-is lines c.self.inside.compiled.limit cache lanes c.args.lane c.args.direction c.args.packet.now
    (c.groups_answer_by_the_key_of_a_point.ensures c.args.direction (view_of c.args.direction c.args.packet.now) lines cache.entries real
    c.self.invariant.groups)
    below state (get_or_default lanes c.args.lane c.index-self-lane.result state below))
    c.take.ensures.ok)
