use Rattle.spd_cut.proofs.Standing.{entries-stand}
use Rattle.spd_cut.proofs.laws.entries_stand_for.Goals as goal

pub returns : goal.returns
returns c = λ d lines. entries-stand d lines record {
  real = c.real_points.ensures.real;
  has = c.boxes_hold_what_a_line_selects.ensures.has;
  judged = c.boxes_hold_what_a_line_selects.ensures.judged;
  once = c.final_boxes_hold_all.ensures.once;
  discards = c.final_boxes_hold_all.ensures.discards;
  low = c.the_first_line_is_the_least.ensures.low;
}
