use Rattle.std.proofs.Common.{get_or, arith}
use Rattle.sel_text.proofs.Digits.{power_mono, ascii_digit_bounds, digit_at}
use Rattle.sel_text.proofs.number.word_value.Goals as goal

pub overflow_mul-value : goal.overflow_mul-value
overflow_mul-value c = omega (arith, power_mono 10 c.loop-digit.digit-index 18 (omega arith) (omega arith))

pub overflow_add-value : goal.overflow_add-value
overflow_add-value c =
    let digits = c.args.digits.now in
    let i = c.loop-digit.digit-index in
    let bounds = ascii_digit_bounds (get_or digits i 0) (digit_at digits i c.requires.digits c.loop-digit-test.true) in
    omega (arith, power_mono 10 i 18 (omega arith) (omega arith))
