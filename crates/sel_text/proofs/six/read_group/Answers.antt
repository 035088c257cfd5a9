use Rattle.std.proofs.Common.{arith}
use Rattle.sel_text.proofs.Digits.{power_mono}
use Rattle.sel_text.proofs.six.read_group.Goals as goal

pub overflow_mul-value : goal.overflow_mul-value
overflow_mul-value c = omega (arith, power_mono 16 c.loop-byte.byte-index 3 (omega arith) (omega arith))

pub overflow_add-value : goal.overflow_add-value
overflow_add-value c =
    let below = power_mono 16 c.loop-byte.byte-index 3 (omega arith) (omega arith) in
    omega (arith, c.in_ok-value.ensures.value)

pub overflow_cast-result : goal.overflow_cast-result
overflow_cast-result c = omega (arith, power_mono 16 c.loop-byte.byte-index 4 (omega arith) (omega arith))
