use Rattle.std.proofs.Common.{◌<◌, get_or, length, arith}
use Rattle.std.proofs.lemmas.List.{get_or_default}
use Rattle.spd_lanes.specs.declared.lane.LaneState.{LaneState}
use Rattle.spd_lanes.specs.Lane.{fill_step}
use Rattle.spd_lanes.proofs.Filling.{fill-keeps, filled-is}
use Rattle.spd_lanes.proofs.Following.{keeps-after, returns-after}
use Rattle.spd_lanes.proofs.shared.Shared.fill.Goals as goal

pub invariant_of-self : goal.invariant_of-self
invariant_of-self c =
    let lines = c.self.inside.compiled.lines in
    let lanes = c.self.inside.lanes in
    let cache = c.self.inside.cache in
    let state : LaneState = get_or lanes c.args.lane c.index-self-lane.result in
    let below : c.args.lane < length lanes = omega (arith, c.self.invariant.sixteen) in
    keeps-after lines lanes c.args.lane (fill_step cache state) cache c.fill.new.cache c.fill.new.lane c.index-self-lane.result c.fill.result
    (fill-keeps lines c.self.inside.compiled.limit cache lanes c.args.lane c.groups_have_the_points_of_their_keys.ensures state
    (c.self.invariant.found c.args.lane c.index-self-lane.result below) c.self.invariant)
    c.self.invariant c.fill.ensures.ok c.fill.ensures.cache c.fill.ensures.lane

pub returns-clause-ok : goal.returns-clause-ok
returns-clause-ok c =
    let lines = c.self.inside.compiled.lines in
    let lanes = c.self.inside.lanes in
    let cache = c.self.inside.cache in
    let limit = c.self.inside.compiled.limit in
    let state : LaneState = get_or lanes c.args.lane c.index-self-lane.result in
    let below : c.args.lane < length lanes = omega (arith, c.self.invariant.sixteen) in
    rw (← c.self.view_is)
    (returns-after lines lanes c.args.lane (fill_step cache state) cache c.fill.new.cache c.fill.new.lane c.index-self-lane.result limit c.fill.result _
    (filled-is lines limit cache lanes c.args.lane below state (get_or_default lanes c.args.lane c.index-self-lane.result state below))
    c.fill.ensures.ok)
