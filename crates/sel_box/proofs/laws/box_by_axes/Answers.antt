use Rattle.sel_box.proofs.BoxAxes.{box_has-by_axes}
use Rattle.sel_box.proofs.laws.box_by_axes.Goals as goal

pub returns : goal.returns
returns c = box_has-by_axes
