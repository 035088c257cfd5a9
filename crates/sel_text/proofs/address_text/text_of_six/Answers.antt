use Rattle.std.proofs.Common.{ℕ, ◌∙◌, length, length-append, ap, lit<, arith}
use Rattle.sel_text.proofs.Printed.{one_group_more}
use Rattle.sel_text.proofs.address_text.text_of_six.Goals as goal

pub loop-index-preserved : goal.loop-index-preserved
loop-index-preserved c = (
  rw (c.push_group-in-loop-index.ensures.bytes, c.push.ensures.ascii (lit< tt), c.group_at-in-loop-index.ensures)
      (one_group_more c.loop-index.text.bytes c.args.address c.loop-index.index c.loop-index-test.true ∙ c.loop-index.invariant.0),
  omega (arith, c.push_group-in-loop-index.ensures.len, ap length (c.push.ensures.ascii (lit< tt)), length-append {A = ℕ}),
)
