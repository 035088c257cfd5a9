use Rattle.std.proofs.Common.{◌<◌, get_or, length, arith}
use Rattle.std.proofs.lemmas.List.{get_or_default}
use Rattle.spd_lanes.specs.declared.lane.LaneState.{LaneState}
use Rattle.spd_lanes.proofs.Searching.{searched-is, searched-returns}
use Rattle.spd_lanes.proofs.shared.Shared.search.Goals as goal

pub returns-clause-ok : goal.returns-clause-ok
returns-clause-ok c =
    let lines = c.self.inside.compiled.lines in
    let lanes = c.self.inside.lanes in
    let cache = c.self.inside.cache in
    let limit = c.self.inside.compiled.limit in
    let state : LaneState = get_or lanes c.args.lane c.index-self-lane.result in
    let below : c.args.lane < length lanes = omega (arith, c.self.invariant.sixteen) in
    rw (← c.self.view_is)
    (searched-returns lines limit cache lanes c.args.lane c.search.result state c.search.new.lane
    (searched-is lines limit cache lanes c.args.lane below state (get_or_default lanes c.args.lane c.index-self-lane.result state below))
    c.search.ensures.ok)
