use Rattle.std.proofs.Common.{◌≡◌, ◌+◌, length, arith, sym, ◌∙◌}
use Rattle.spd_line.proofs.Places.{NoneBefore-found, NoneBefore-passed, NoneBefore-all}
use Rattle.spd_line.proofs.verdict.judge.Goals as goal

pub returns-then-matches-clause-verdict : goal.returns-then-matches-clause-verdict
returns-then-matches-clause-verdict g c =
    rw c.judge_by.ensures
    (sym (NoneBefore-found _ _ _ _ _ c.loop-place.invariant c.line-line.ensures (sym c.matches.ensures ∙ c.if-matches.true)))

pub loop-place-preserved : goal.loop-place-preserved
loop-place-preserved g c =
    NoneBefore-passed _ _ _ _ _ c.loop-place.invariant c.line-line.ensures (sym c.matches.ensures ∙ c.if-matches.false)

pub returns-clause-verdict : goal.returns-clause-verdict
returns-clause-verdict g c =
    let all : c.loop-place.place ≡ length (g.L.Lines.lines c.args.lines.now) + 1 = omega arith in
    rw c.count.ensures (sym (NoneBefore-all _ _ _ _ c.loop-place.invariant all))
