use Rattle.std.proofs.Common.{sym, ◌∙◌}
use Rattle.std.specs.Option.{option_to_list}
use Rattle.sel_region.proofs.Loops.{flat_map_end, flat_map_next}
use Rattle.spd_cut.specs.Group.{group_part}
use Rattle.spd_cut.proofs.grouping.group.Goals as goal

pub loop-entry-preserved : goal.loop-entry-preserved
loop-entry-preserved c =
    rw c.in_ok-put_part.ensures
    (flat_map_next (λ e. option_to_list (group_part c.args.link c.args.pins.now e)) c.loop-entry.list c.args.entries.now c.loop-entry.entry-index
    c.entry-item.result c.loop-entry-test.true c.entry-item.is
    ∙ c.loop-entry.invariant)

pub returns : goal.returns
returns c =
    sym (flat_map_end (λ e. option_to_list (group_part c.args.link c.args.pins.now e)) c.loop-entry.list c.args.entries.now c.loop-entry.entry-index
    c.loop-entry-test.false)
    ∙ c.loop-entry.invariant
