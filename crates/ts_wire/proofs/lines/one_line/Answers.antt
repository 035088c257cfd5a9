use Rattle.std.proofs.Common.{◌≡◌, ◌∷◌, ℕ, List, [], length, sym, ap, ◌∙◌, arith}
use Rattle.std.proofs.lemmas.Bool.{eqb-false}
use Rattle.std.proofs.lemmas.List.{nil_from_length}
use Rattle.ts_wire.specs.Proposal.{texts_of}
use Rattle.ts_wire.proofs.Cuts.{some_texts, texts-cut, texts-uncut}
use Rattle.ts_wire.proofs.lines.one_line.Goals as goal

pub returns-in-Some-default-empty : goal.returns-in-Some-default-empty
returns-in-Some-default-empty c =
    let rest = c.in-Some-default-empty.field-0-1.now in
    let none : rest ≡ [] = nil_from_length rest (omega arith) in
    texts-cut c.args.text.now c.in-Some-default-empty.line.now rest (sym c.in-Some-default-empty.ensures)
    ∙ ap (λ (xs : List ℕ). c.in-Some-default-empty.line.now ∷ texts_of xs) none

pub returns-in-Some : goal.returns-in-Some
returns-in-Some c = λ one.
    let rest = c.in-Some.field-0.1.now in
    let all = ap (λ (xs : List (List ℕ)). length xs) (texts-cut c.args.text.now c.in-Some.field-0.0.now rest (sym c.in-Some.ensures)) in
    let more = some_texts rest c.in-Some.len_at_least in
    omega arith

pub returns-in-None : goal.returns-in-None
returns-in-None c =
    let some = eqb-false (length c.args.text.now) 0 (sym c.if-is_empty.ensures) in
    texts-uncut c.args.text.now (omega (arith, some)) (sym c.in-None.ensures)
