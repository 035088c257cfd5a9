use Rattle.spd_line.proofs.LineBoxCount.{line_boxes-all, line_boxes-few}
use Rattle.spd_line.proofs.laws.boxes_are_counted.Goals as goal

pub returns-clause-few : goal.returns-clause-few
returns-clause-few c = line_boxes-few

pub returns-clause-all : goal.returns-clause-all
returns-clause-all c = line_boxes-all
