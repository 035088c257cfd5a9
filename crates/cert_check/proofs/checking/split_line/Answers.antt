use Rattle.std.proofs.Common.{◌<◌, length, sym, ◌∙◌, arith}
use Rattle.std.proofs.lemmas.Bool.Decides.{nat_tests}
use Rattle.cert_check.proofs.Feeds.{first_line-ended, first_line-last}
use Rattle.cert_check.proofs.checking.split_line.Goals as goal

pub returns-in-Some-clause-lines : goal.returns-in-Some-clause-lines
returns-in-Some-clause-lines c =
    rw (c.split_at.ensures.front, c.split_at.ensures.back)
    (first_line-ended c.args.text.now c.in-Some.end (sym c.place_of.ensures ∙ c.in-Some.is))

pub returns-in-None-clause-lines : goal.returns-in-None-clause-lines
returns-in-None-clause-lines c =
    let some : 0 < length c.args.text.now = grind (arith, nat_tests, c.if-is_empty.ensures) in
    rw (c.split_at-in-None.ensures.front, c.split_at-in-None.ensures.back)
    (first_line-last c.args.text.now some (sym c.place_of.ensures ∙ c.in-None.is))
