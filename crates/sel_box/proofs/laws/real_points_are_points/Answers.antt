use Rattle.sel_box.proofs.RealPoints.{is_point-from_real}
use Rattle.sel_box.proofs.laws.real_points_are_points.Goals as goal

pub returns : goal.returns
returns c = is_point-from_real
