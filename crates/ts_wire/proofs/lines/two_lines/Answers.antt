use Rattle.std.proofs.Common.{◌∷◌, ℕ, List, length, sym, ap, ◌∙◌, arith}
use Rattle.ts_wire.proofs.Cuts.{texts-cut, uncut_not_two}
use Rattle.ts_wire.proofs.lines.two_lines.Goals as goal

pub returns-in_err-first : goal.returns-in_err-first
returns-in_err-first c = rw c.from_residual.ensures (uncut_not_two c.args.text.now (sym c.in_err-first.ensures))

pub returns-in_err-one_line : goal.returns-in_err-one_line
returns-in_err-one_line c =
    rw c.from_residual-in_err-one_line.ensures (λ two.
    let all = ap (λ (xs : List (List ℕ)). length xs) (texts-cut c.args.text.now c.in_ok-first.first.now c.in_ok-first.rest.now (sym c.in_ok-first.ensures)) in
    c.in_err-one_line.ensures (omega arith))

pub returns : goal.returns
returns c =
    texts-cut c.args.text.now c.in_ok-first.first.now c.in_ok-first.rest.now (sym c.in_ok-first.ensures)
    ∙ ap (λ (xs : List (List ℕ)). c.in_ok-first.first.now ∷ xs) c.in_ok-one_line.ensures
