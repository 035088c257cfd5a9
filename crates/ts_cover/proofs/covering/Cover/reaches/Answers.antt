use Rattle.std.proofs.Common.{rules}
use Rattle.ts_cover.proofs.Reached.{reached}
use Rattle.ts_cover.proofs.covering.Cover.reaches.Goals as goal

pub returns-clause-real : goal.returns-clause-real
returns-clause-real c = reached c.reaches.result c.args.self.now c.args.region.now (search rules)
