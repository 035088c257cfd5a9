use Rattle.spd_line.proofs.Places.{first_place-within}
use Rattle.spd_index.proofs.index.Index.judge.Goals as goal

pub returns-after-family-clause-first : goal.returns-after-family-clause-first
returns-after-family-clause-first g c =
    rw c.judge_by.ensures (first_place-within c.args.direction c.args.point.now (g.L.Lines.lines c.args.lines.now)).0

pub returns-after-family-clause-last : goal.returns-after-family-clause-last
returns-after-family-clause-last g c =
    rw c.judge_by.ensures (first_place-within c.args.direction c.args.point.now (g.L.Lines.lines c.args.lines.now)).1
