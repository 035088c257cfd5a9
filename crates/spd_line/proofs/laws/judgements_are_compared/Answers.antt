use Rattle.spd_line.proofs.Compared.{same_judgement-equal, same_judgement-refl}
use Rattle.spd_line.proofs.laws.judgements_are_compared.Goals as goal

pub returns-clause-reflexive : goal.returns-clause-reflexive
returns-clause-reflexive c = same_judgement-refl

pub returns-clause-equal : goal.returns-clause-equal
returns-clause-equal c = same_judgement-equal
