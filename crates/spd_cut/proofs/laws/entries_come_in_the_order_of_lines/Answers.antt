use Rattle.spd_cut.proofs.Ordered.{entries-rise}
use Rattle.spd_cut.proofs.laws.entries_come_in_the_order_of_lines.Goals as goal

pub returns : goal.returns
returns c = entries-rise
