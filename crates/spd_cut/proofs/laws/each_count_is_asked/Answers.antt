use Rattle.spd_cut.specs.Entries.{linked_boxes}
use Rattle.spd_cut.specs.Steps.{steps}
use Rattle.spd_cut.proofs.Counts.{passes_first, stays_within}
use Rattle.spd_cut.proofs.laws.each_count_is_asked.Goals as goal

pub returns-clause-within : goal.returns-clause-within
unfolding steps
returns-clause-within c = λ limit d lines. stays_within limit (linked_boxes d 1 lines)

pub returns-clause-passed : goal.returns-clause-passed
unfolding steps
returns-clause-passed c = λ limit line d lines. passes_first limit line (linked_boxes d 1 lines)
