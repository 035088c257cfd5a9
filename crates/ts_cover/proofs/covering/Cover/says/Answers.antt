use Rattle.std.proofs.Common.{rules}
use Rattle.ts_cover.proofs.Reached.{said}
use Rattle.ts_cover.proofs.covering.Cover.says.Goals as goal

pub returns-clause-real : goal.returns-clause-real
returns-clause-real c = said c.says.result c.args.self.now c.args.region.now (search rules)
