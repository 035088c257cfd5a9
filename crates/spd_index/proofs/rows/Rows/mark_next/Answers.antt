use Rattle.std.proofs.Common.{◌≡◌, ◌/◌, arith}
use Rattle.spd_index.specs.inner.Rows.{block_row, IsSet}
use Rattle.spd_index.proofs.Stands.{same_block, StandsIn-block, StandsIn-part}
use Rattle.spd_index.proofs.rows.Rows.mark_next.Goals as goal

pub returns-then-last-part-ge-BLOCK-clause-marked : goal.returns-then-last-part-ge-BLOCK-clause-marked
returns-then-last-part-ge-BLOCK-clause-marked c = λ next low high.
    let set : IsSet c.set.new.self (block_row c.set.new.self c.args.part) c.args.line =
    rw (c.set.ensures.kept.starts, ← c.block_row-block.ensures) c.set.ensures.set in
    StandsIn-block c.set.new.self (c.args.part / 64) next c.args.line (same_block c.args.part next c.if-part-eq0.true low high) set

pub returns-else-part-eq0-clause-marked : goal.returns-else-part-eq0-clause-marked
returns-else-part-eq0-clause-marked c = λ next low high.
    let same : next ≡ c.args.part = omega arith in
    rw same (StandsIn-part c.set-else-part-eq0.new.self c.args.part c.args.line c.set-else-part-eq0.ensures.set)
