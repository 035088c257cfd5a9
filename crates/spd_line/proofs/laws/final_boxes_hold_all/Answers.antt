use Rattle.spd_line.proofs.FinalLaws.{final_list-count, final_list-judged}
use Rattle.spd_line.proofs.laws.final_boxes_hold_all.Goals as goal

pub returns-clause-once : goal.returns-clause-once
returns-clause-once c = final_list-count

pub returns-clause-discards : goal.returns-clause-discards
returns-clause-discards c = final_list-judged
