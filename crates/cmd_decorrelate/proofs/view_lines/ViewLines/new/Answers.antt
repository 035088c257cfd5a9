use Rattle.std.proofs.Common.{length}
use Rattle.cmd_decorrelate.proofs.Views.{AreLinked-listing}
use Rattle.cmd_decorrelate.proofs.view_lines.ViewLines.new.Goals as goal

pub invariant_of-result-clause-linked : goal.invariant_of-result-clause-linked
invariant_of-result-clause-linked c =
    AreLinked-listing (length c.args.lines.now) c.args.view c.args.outbound.now c.args.inbound.now c.in_ok-list.field-0
    c.requires.outbound c.requires.inbound c.in_ok-list.ensures
