use Rattle.cmd_decorrelate.proofs.Decorrelated.{IsDecorrelated-answer}
use Rattle.cmd_decorrelate.proofs.laws.views_stand_for_the_policy.Goals as goal

pub returns : goal.returns
returns c = IsDecorrelated-answer c.entries_stand_for.ensures
