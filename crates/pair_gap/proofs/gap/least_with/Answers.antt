use Rattle.std.proofs.lemmas.Bool.{OnTrue_at}
use Rattle.pair_gap.proofs.Passed.{with_kept}
use Rattle.pair_gap.proofs.gap.least_with.Goals as goal

pub returns-then-has_no_lesser : goal.returns-then-has_no_lesser
returns-then-has_no_lesser c =
    with_kept c.args.best c.args.entry.now c.args.peer.now (OnTrue_at c.if-has_no_lesser.true c.has_no_lesser.ensures)
