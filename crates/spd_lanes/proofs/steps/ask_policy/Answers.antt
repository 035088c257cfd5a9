use Rattle.spd_lanes.proofs.steps.ask_policy.Goals as goal

pub look-requires : goal.look-requires
look-requires c = rw c.view-point.ensures.value c.view-point.ensures.real
