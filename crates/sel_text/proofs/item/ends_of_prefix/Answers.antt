use Rattle.std.proofs.Common.{arith}
use Rattle.sel_text.proofs.Items.{without_host, highest-lt}
use Rattle.sel_text.proofs.item.ends_of_prefix.Goals as goal

pub overflow_add-result : goal.overflow_add-result
overflow_add-result c =
    rw c.greatest_of-host.ensures (omega (
      arith,
      without_host c.args.address c.args.host_bits,
      highest-lt c.args.address c.args.host_bits 128 c.requires (omega arith),
    ))

pub returns : goal.returns
returns c = rw (c.greatest_of-host.ensures, without_host)
