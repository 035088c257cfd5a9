use Rattle.ts_narrow.proofs.AnswerPoints.{narrowing-right}
use Rattle.ts_narrow.proofs.laws.narrowing_is_right.Goals as goal

pub returns : goal.returns
returns c = λ lines outbound inbound tsi tsr both hi hr. narrowing-right lines outbound inbound both tsi tsr hi hr
