use Rattle.ts_narrow.proofs.OneAnswer.{one-answer}
use Rattle.ts_narrow.proofs.laws.one_answer.Goals as goal

pub returns : goal.returns
returns c = λ lines list tsi tsr one other p q. one-answer lines list tsi tsr one other p q
