use Rattle.std.proofs.Common.{sym}
use Rattle.spd_cut.proofs.Passed.{passed_over}
use Rattle.spd_cut.proofs.cut.take_out.Goals as goal

pub returns-then-not-meets-clause-cut : goal.returns-then-not-meets-clause-cut
returns-then-not-meets-clause-cut g c =
    sym (passed_over g.met.R.Region.laws c.args.region.now c.args.pieces.now c.args.earlier.now c.requires.inside (sym c.if-not-meets.ensures))
