use Rattle.std.proofs.Common.{ℕ, ◌+◌, ◌-◌, ◌++◌, List, sym, ap, ◌∙◌}
use Rattle.std.specs.Option.{option_to_list}
use Rattle.std.proofs.lemmas.Result.{err_from_is_err_and}
use Rattle.ts_payload.specs.declared.selector.Ts.{Ts}
use Rattle.ts_payload.specs.Piece.{first_piece, selector_in}
use Rattle.ts_payload.specs.Reading.{selectors_of, with_front}
use Rattle.ts_payload.proofs.Loops.{ended_at, goes_on, left_over_at, refused_at}
use Rattle.ts_payload.proofs.reading.read_selectors.Goals as goal

pub returns-in_err-rest-clause-fault : goal.returns-in_err-rest-clause-fault
returns-in_err-rest-clause-fault c =
    let p = err_from_is_err_and c.from_residual.result c.from_residual.ensures.1 in
    rw (p.1, p.2) (λ other. refused_at c.args.count c.loop-done.done c.loop-done.list c.loop-done.rest.now c.in_err-rest.field-0.0
    (selectors_of c.args.count 1 c.args.bytes.now) c.loop-done-test.true (c.in_err-rest.ensures.fault other) c.loop-done.invariant.read)

pub loop-done-preserved : goal.loop-done-preserved
loop-done-preserved c =
    let read = option_to_list (selector_in (first_piece c.loop-done.rest.now)) in
    let left = selectors_of (c.args.count - (c.loop-done.done + 1)) (c.loop-done.done + 1 + 1) in
    record {
      read = ap (λ (xs : List Ts). with_front xs (left c.in_ok-rest.rest.now)) c.in_ok-rest.ensures.list
          ∙ (ap (λ (xs : List ℕ). with_front (c.loop-done.list ++ read) (left xs)) c.in_ok-rest.ensures.behind
          ∙ goes_on c.args.count c.loop-done.done c.loop-done.list c.loop-done.rest.now (selectors_of c.args.count 1 c.args.bytes.now) c.loop-done-test.true
          c.in_ok-rest.ensures.right c.loop-done.invariant.read);
      selectors = c.in_ok-rest.ensures.selectors;
      few = c.in_ok-rest.ensures.few;
    }

pub returns-then-not-is_empty-clause-fault : goal.returns-then-not-is_empty-clause-fault
returns-then-not-is_empty-clause-fault c =
    λ _. left_over_at c.args.count c.loop-done.done c.loop-done.list c.loop-done.rest.now (selectors_of c.args.count 1 c.args.bytes.now)
    c.loop-done-test.false (sym c.if-not-is_empty.ensures) c.loop-done.invariant.read

pub returns-clause-list : goal.returns-clause-list
returns-clause-list c =
    ended_at c.args.count c.loop-done.done c.loop-done.list c.loop-done.rest.now (selectors_of c.args.count 1 c.args.bytes.now)
    c.loop-done-test.false (sym c.if-not-is_empty.ensures) c.loop-done.invariant.read
