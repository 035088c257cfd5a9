use Rattle.spd_lanes.specs.Machine.{lane_at, machine}
use Rattle.spd_lanes.specs.Run.{AreServed, no_notes, run}
use Rattle.spd_lanes.proofs.Served.{asked-first, begun-served, fill-served, hit-served, run-served}
use Rattle.spd_lanes.proofs.laws.served.Goals as goal

pub returns-clause-runs : goal.returns-clause-runs
returns-clause-runs c =
    λ lines limit capacity events. run-served events (machine lines limit capacity) no_notes (begun-served lines limit capacity)

pub returns-clause-fill : goal.returns-clause-fill
returns-clause-fill c =
    λ lines limit capacity events place reply after ok.
    let ran = run events (machine lines limit capacity) no_notes in
    let served : AreServed ran.machine ran.notes = returns-clause-runs c lines limit capacity events in
    fill-served ran.machine after ran.notes place (lane_at place ran.machine) reply (served.lanes place) ok

pub returns-clause-hit : goal.returns-clause-hit
returns-clause-hit c = λ place d p m after answer ok. hit-served place d p m after answer (lane_at place m) ok

pub returns-clause-at_once : goal.returns-clause-at_once
returns-clause-at_once c = asked-first
