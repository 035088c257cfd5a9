use Rattle.std.proofs.Common.{ℕ, ◌≤◌, ◌==◌, length, take, sym, ap, ◌∙◌, arith}
use Rattle.std.proofs.lemmas.List.{length-take}
use Rattle.sel_text.proofs.FirstPlaces.{position-take-some, position-take-none, position_or_len-le-length}
use Rattle.trace_text.proofs.line.first_line.Goals as goal

pub returns-in-Some-clause-line : goal.returns-in-Some-clause-line
returns-in-Some-clause-line c =
    let found = position-take-some (λ b. b == 10) c.min-reach.result c.in-Some.end c.args.bytes.now (sym c.place_of.ensures ∙ c.in-Some.is) in
    ap (λ n. take n c.args.bytes.now) (sym found)

pub returns-in-None-clause-long : goal.returns-in-None-clause-long
returns-in-None-clause-long c =
    let within : c.min-reach.result ≤ length c.args.bytes.now = omega arith in
    let none = position-take-none (λ b. b == 10) c.min-reach.result c.args.bytes.now within (sym c.place_of.ensures ∙ c.in-None.is) in
    omega (arith, none, length-take {A = ℕ}, position_or_len-le-length (λ b. b == 10) c.args.bytes.now)
