use Rattle.std.proofs.Common.{◌+◌, ◌*◌, w64, sym, ◌∙◌, arith}
use Rattle.std.specs.Int.{trailing_zeros}
use Rattle.std.proofs.lemmas.Nat.Bits.{bit_at-trailing_zeros}
use Rattle.spd_index.proofs.Tried.{AreInWord-without, IsFound-from_judged, IsMissed-all, IsMissed-below, missed_from_judged, without_bit-lt}
use Rattle.spd_index.proofs.Verdicts.{verdict_of-found}
use Rattle.spd_index.proofs.tries.first_of_word.Goals as goal

pub returns-in-Some-clause-found : goal.returns-in-Some-clause-found
returns-in-Some-clause-found g c =
    let d = c.args.direction in
    let x = c.args.point.now in
    let lines = g.L.Lines.lines c.args.lines.now in
    let left = c.loop-left.left in
    let low = bit_at-trailing_zeros w64 left (omega arith) c.loop-left.auto.left-fits.fits in
    let bit = trailing_zeros w64 left in
    let found = IsFound-from_judged d x lines (64 * c.args.word + bit) c.in-Some.judgement (sym c.judged_at.ensures ∙ c.in-Some.is) in
    let missed = IsMissed-below d x lines c.args.word left bit c.requires.missed c.loop-left.invariant (omega (arith, low.0)) low.2 in
    rw (← found.judged_is) (sym (verdict_of-found d x lines (64 * c.args.word + bit) found.line missed found.at found.hit))

pub loop-left-smaller : goal.loop-left-smaller
loop-left-smaller g c =
    let low = bit_at-trailing_zeros w64 c.loop-left.left (omega arith) c.loop-left.auto.left-fits.fits in
    without_bit-lt c.loop-left.left (trailing_zeros w64 c.loop-left.left) low.0 low.1

pub loop-left-preserved : goal.loop-left-preserved
loop-left-preserved g c =
    let lines = g.L.Lines.lines c.args.lines.now in
    let left = c.loop-left.left in
    let bit = trailing_zeros w64 left in
    let low = bit_at-trailing_zeros w64 left (omega arith) c.loop-left.auto.left-fits.fits in
    AreInWord-without c.args.direction c.args.point.now lines c.args.word left bit c.loop-left.invariant low.0
    (λ line at. missed_from_judged c.args.direction c.args.point.now lines (64 * c.args.word + bit) line (sym c.judged_at.ensures ∙ c.in_default.is) at)

pub returns-clause-none : goal.returns-clause-none
returns-clause-none g c =
    IsMissed-all _ _ _ c.args.word c.loop-left.left c.requires.missed c.loop-left.invariant (omega arith)
