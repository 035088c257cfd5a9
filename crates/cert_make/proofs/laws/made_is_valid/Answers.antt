use Rattle.cert_make.proofs.Validity.{made-valid}
use Rattle.cert_make.proofs.laws.made_is_valid.Goals as goal

pub returns : goal.returns
returns c = made-valid (record {
  has = c.boxes_hold_what_a_line_selects.ensures.has;
  judged_as = c.boxes_hold_what_a_line_selects.ensures.judged;
  once = c.final_boxes_hold_all.ensures.once;
  discards = c.final_boxes_hold_all.ensures.discards;
  equal = c.judgements_are_compared.ensures.equal;
  packet = c.real_points.ensures.packet;
  point = c.real_points_are_points.ensures;
  low = c.the_first_line_is_the_least.ensures.low;
}) c.judgements_are_compared.ensures.reflexive
