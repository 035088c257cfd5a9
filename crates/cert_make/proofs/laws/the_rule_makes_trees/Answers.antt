use Rattle.cert_text.specs.Rows.{a_rows, b_rows}
use Rattle.cert_make.specs.Rule.{placed}
use Rattle.cert_make.proofs.Smaller.{trees_of-none, trees_of-step}
use Rattle.cert_make.proofs.laws.the_rule_makes_trees.Goals as goal

pub returns-clause-none : goal.returns-clause-none
returns-clause-none c = λ a b. trees_of-none (placed 1 (a_rows a)) (placed 1 (b_rows b))

pub returns-clause-some : goal.returns-clause-some
returns-clause-some c = λ a b box boxes. trees_of-step (placed 1 (a_rows a)) (placed 1 (b_rows b)) box boxes
