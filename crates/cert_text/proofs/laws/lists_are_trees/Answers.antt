use Rattle.cert_text.proofs.Trees.{trees-valid}
use Rattle.cert_text.proofs.laws.lists_are_trees.Goals as goal

pub returns : goal.returns
returns c = trees-valid
