use Rattle.spd_line.proofs.Places.{first_place-least, first_place-selects, first_place-within}
use Rattle.spd_line.proofs.laws.the_first_line_is_the_least.Goals as goal

pub returns-clause-low : goal.returns-clause-low
returns-clause-low c = λ d x lines. (first_place-within d x lines).0

pub returns-clause-high : goal.returns-clause-high
returns-clause-high c = λ d x lines. (first_place-within d x lines).1

pub returns-clause-selects : goal.returns-clause-selects
returns-clause-selects c = first_place-selects

pub returns-clause-least : goal.returns-clause-least
returns-clause-least c = first_place-least
