use Rattle.std.proofs.Common.{arith}
use Rattle.std.specs.Str.Parse.{digits_value_after}
use Rattle.std.proofs.lemmas.List.{at_drop_all}
use Rattle.sel_text.proofs.Digits.{next_digit-le}
use Rattle.sel_text.proofs.number.value_after.Goals as goal

pub returns-in_err-checked_mul : goal.returns-in_err-checked_mul
returns-in_err-checked_mul c =
    let more = next_digit-le c.loop-digit.value _ c.args.digits.now c.loop-digit.digit-index c.requires c.loop-digit-test.true c.loop-digit.invariant.0 in
    rw c.from_residual.ensures (λ fits. c.in_err-checked_mul.ensures (omega arith))

pub returns-in_err-value : goal.returns-in_err-value
returns-in_err-value c =
    let more = next_digit-le c.loop-digit.value _ c.args.digits.now c.loop-digit.digit-index c.requires c.loop-digit-test.true c.loop-digit.invariant.0 in
    rw c.from_residual-in_err-value.ensures (λ fits. c.in_err-value.ensures (omega (arith, c.in_ok-checked_mul.ensures)))

pub returns : goal.returns
returns c =
    let whole = at_drop_all (digits_value_after 10 c.loop-digit.value) c.args.digits.now c.loop-digit.digit-index c.loop-digit-test.false in
    grind arith
