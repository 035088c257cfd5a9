use Rattle.std.proofs.Common.{arith}
use Rattle.sel_text.proofs.Digits.{power_mono}
use Rattle.sel_text.proofs.six.Groups.with_group.Goals as goal

pub overflow_mul-result : goal.overflow_mul-result
overflow_mul-result c = omega (arith, power_mono 65536 c.self.inside.count 7 (omega arith) (omega arith))

pub overflow_add-result : goal.overflow_add-result
overflow_add-result c = omega (arith, power_mono 65536 c.self.inside.count 7 (omega arith) (omega arith))
