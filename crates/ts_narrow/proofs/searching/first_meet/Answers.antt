use Rattle.std.specs.List.{find}
use Rattle.ts_narrow.specs.Meets.{meets_with}
use Rattle.ts_narrow.proofs.Answering.{step_found, step_none}
use Rattle.ts_narrow.proofs.Passed.{find_next}
use Rattle.ts_narrow.proofs.searching.first_meet.Goals as goal

pub returns-in-Some : goal.returns-in-Some
returns-in-Some g c =
    step_found c.in_ok-found.field-0 (find (g.T.MeetTest.passes c.args.test.now) (meets_with c.e-item.result c.args.inbound.now)) _ _ _
    c.in-Some.found c.in_ok-found.ensures c.in-Some.is
    (find_next (g.T.MeetTest.passes c.args.test.now) c.args.outbound.now c.args.inbound.now c.loop-e.e-index c.e-item.result
    c.loop-e-test.true c.e-item.is)
    c.loop-e.invariant

pub loop-e-preserved : goal.loop-e-preserved
loop-e-preserved g c =
    step_none c.in_ok-found.field-0 (find (g.T.MeetTest.passes c.args.test.now) (meets_with c.e-item.result c.args.inbound.now)) _ _ _
    c.in_ok-found.ensures c.in-None.is
    (find_next (g.T.MeetTest.passes c.args.test.now) c.args.outbound.now c.args.inbound.now c.loop-e.e-index c.e-item.result
    c.loop-e-test.true c.e-item.is)
    c.loop-e.invariant
