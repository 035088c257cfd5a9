use Rattle.spd_find.proofs.Found.{found_has, none_has, one_found}
use Rattle.spd_find.proofs.laws.the_box_that_has_the_point_is_found.Goals as goal

pub returns-clause-has : goal.returns-clause-has
returns-clause-has c = found_has

pub returns-clause-none : goal.returns-clause-none
returns-clause-none c = none_has

pub returns-clause-one : goal.returns-clause-one
returns-clause-one c = one_found
