use Rattle.std.proofs.Common.{sym}
use Rattle.sel_text.proofs.Groups.{counted_last, counted_more}
use Rattle.sel_text.proofs.six.read_groups.Goals as goal

pub returns-in_err-groups : goal.returns-in_err-groups
returns-in_err-groups c =
    let step = counted_more c.loop-group.groups c.loop-group.rest.now c.in-Some.group.now c.in-Some.more.now (sym c.in-Some.ensures) in
    rw c.from_residual.ensures (rw (← c.loop-group.invariant, step, ← c.in_err-groups.ensures))

pub loop-group-preserved : goal.loop-group-preserved
loop-group-preserved c =
    let step = counted_more c.loop-group.groups c.loop-group.rest.now c.in-Some.group.now c.in-Some.more.now (sym c.in-Some.ensures) in
    rw (← c.loop-group.invariant, step, ← c.in_ok-groups.ensures)

pub returns : goal.returns
returns c =
    let step = counted_last c.loop-group.groups c.loop-group.rest.now (sym c.in_default.ensures) in
    rw (← c.loop-group.invariant, step) c.with_group-2.ensures
