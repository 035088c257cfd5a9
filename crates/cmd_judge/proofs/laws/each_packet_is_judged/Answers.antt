use Rattle.cmd_judge.proofs.Headline.{judged_to_its_end}
use Rattle.cmd_judge.proofs.laws.each_packet_is_judged.Goals as goal

pub returns : goal.returns
returns c = judged_to_its_end (λ d x lines. record {
  low = c.the_first_line_is_the_least.ensures.low d x lines;
  high = c.the_first_line_is_the_least.ensures.high d x lines;
  selects_it = c.the_first_line_is_the_least.ensures.selects d x lines;
  least = c.the_first_line_is_the_least.ensures.least d x lines;
})
