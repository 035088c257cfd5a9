use Rattle.ts_cover.proofs.PairPoints.{pairs-points}
use Rattle.ts_cover.proofs.covering.Cover.new.Goals as goal

pub returns-in_err-list-clause-points : goal.returns-in_err-list-clause-points
returns-in_err-list-clause-points c = λ hi hr x. pairs-points c.args.tsi.now c.args.tsr.now x hi hr

pub returns-in_err-boxes-clause-points : goal.returns-in_err-boxes-clause-points
returns-in_err-boxes-clause-points c = λ hi hr x. pairs-points c.args.tsi.now c.args.tsr.now x hi hr

pub returns-clause-points : goal.returns-clause-points
returns-clause-points c = λ hi hr x. pairs-points c.args.tsi.now c.args.tsr.now x hi hr
