use Rattle.std.proofs.Common.{arith}
use Rattle.sel_text.proofs.Items.{highest-lt}
use Rattle.sel_text.proofs.item.prefix_of_four.Goals as goal

pub overflow_cast-result-2 : goal.overflow_cast-result-2
overflow_cast-result-2 c =
    let small = highest-lt c.from-2.result c.saturating_sub-host_bits.result 32 (omega arith) (omega arith) in
    rw c.ends_of_prefix-first.ensures (omega arith)
