use Rattle.sel_box.proofs.PiecesByAxes.{box_minus-by_axes}
use Rattle.sel_box.proofs.laws.pieces_by_axes.Goals as goal

pub returns : goal.returns
returns c = box_minus-by_axes
