use Rattle.ts_narrow.proofs.AnswerPoints.{narrowing-is}
use Rattle.ts_narrow.proofs.laws.narrowing_is_by_points.Goals as goal

pub returns : goal.returns
returns c = λ lines outbound inbound tsi tsr both hi hr. narrowing-is lines outbound inbound both tsi tsr hi hr
