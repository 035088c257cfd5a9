use Rattle.ts_cover.proofs.Written.{written-can_write}
use Rattle.ts_cover.proofs.covering.Cover.written_part.Goals as goal

pub returns-clause-writable : goal.returns-clause-writable
returns-clause-writable c = written-can_write c.args.self.now c.args.region.now
