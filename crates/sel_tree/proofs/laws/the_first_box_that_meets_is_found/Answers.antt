use Rattle.sel_tree.specs.laws.FirstMetLaws.{first-is_found, found-is_first, none-is_none_met}
use Rattle.sel_tree.proofs.laws.the_first_box_that_meets_is_found.Goals as goal

pub returns-clause-found : goal.returns-clause-found
returns-clause-found c = found-is_first

pub returns-clause-only : goal.returns-clause-only
returns-clause-only c = first-is_found

pub returns-clause-none : goal.returns-clause-none
returns-clause-none c = none-is_none_met
