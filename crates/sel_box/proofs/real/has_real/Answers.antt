-- A box has a real point where packets of one direction or the other show something in its ranges.
use Rattle.std.proofs.Common.{◌∙◌, ap}
use Rattle.sel_box.specs.inner.Shown.{shows_in}
use Rattle.sel_box.proofs.BoxPackets.{has_real_point-inbound, has_real_point-outbound, has_real_point-real}
use Rattle.sel_box.proofs.real.has_real.Goals as goal

pub returns-then-show_some-clause-real : goal.returns-then-show_some-clause-real
returns-then-show_some-clause-real c =
    has_real_point-real c.show_some.result c.args.region.now
    (has_real_point-outbound c.args.region.now c.outbound.result c.show_some.result
    c.outbound.ensures.addresses c.outbound.ensures.value c.show_some.ensures c.if-show_some.true)

pub returns-else-show_some-clause-real : goal.returns-else-show_some-clause-real
returns-else-show_some-clause-real c =
    has_real_point-real c.show_some-else-show_some.result c.args.region.now
    (has_real_point-inbound c.args.region.now c.outbound.result c.show_some.result c.show_some-else-show_some.result
    c.outbound.ensures.addresses c.outbound.ensures.value c.show_some.ensures c.if-show_some.false
    (c.show_some-else-show_some.ensures ∙ ap shows_in c.inbound.ensures))
