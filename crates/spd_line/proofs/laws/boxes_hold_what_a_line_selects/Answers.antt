use Rattle.spd_line.proofs.LineBoxJudged.{line_boxes-judged}
use Rattle.spd_line.proofs.LineBoxLaws.{line_boxes-has}
use Rattle.spd_line.proofs.laws.boxes_hold_what_a_line_selects.Goals as goal

pub returns-clause-has : goal.returns-clause-has
returns-clause-has c = line_boxes-has

pub returns-clause-judged : goal.returns-clause-judged
returns-clause-judged c = line_boxes-judged
