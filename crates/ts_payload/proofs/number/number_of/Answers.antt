use Rattle.std.proofs.Common.{arith}
use Rattle.ts_payload.proofs.Numbers.{next_fits}
use Rattle.ts_payload.proofs.number.number_of.Goals as goal

pub overflow_mul-number : goal.overflow_mul-number
overflow_mul-number c =
    let fits = next_fits c.loop-byte.byte-index c.loop-byte.number 0 (omega arith) c.loop-byte.invariant.0 (omega arith) in
    omega (arith, fits)

pub overflow_add-number : goal.overflow_add-number
overflow_add-number c =
    let fits = next_fits c.loop-byte.byte-index c.loop-byte.number 255 (omega arith) c.loop-byte.invariant.0 (omega arith) in
    omega (arith, fits)
