use Rattle.std.proofs.Common.{◌*◌, sym, arith}
use Rattle.spd_index.proofs.Looked.{AreInWord-looked}
use Rattle.spd_index.proofs.Verdicts.{verdict_of-none}
use Rattle.spd_index.proofs.sides.judge_by.Goals as goal

pub first_of_word-requires-clause-bits : goal.first_of_word-requires-clause-bits
first_of_word-requires-clause-bits g c =
    rw c.word_of_both-bits.ensures
    (AreInWord-looked c.args.direction c.args.point.now c.args.sides.now (g.L.Lines.lines c.args.lines.now)
    c.parts_of-parts.result.local c.parts_of-parts.result.remote c.loop-word.word
    c.requires.sides c.parts_of-parts.ensures.local c.parts_of-parts.ensures.remote)

pub returns : goal.returns
returns g c =
    rw (c.verdict_of_final.ensures, c.count-2.ensures)
    (sym (verdict_of-none c.args.direction c.args.point.now (g.L.Lines.lines c.args.lines.now) (64 * c.loop-word.word) (omega arith) c.loop-word.invariant))
