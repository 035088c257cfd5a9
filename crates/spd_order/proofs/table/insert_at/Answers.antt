use Rattle.std.proofs.Common.{◌∙◌}
use Rattle.spd_order.proofs.Entries.{put_new}
use Rattle.spd_order.proofs.table.insert_at.Goals as goal

pub returns-in-Ok-clause-ok : goal.returns-in-Ok-clause-ok
returns-in-Ok-clause-ok c =
    rw c.parts.ensures.value at c.in-Ok.ensures.entries ∙ put_new c.args.table.now c.args.index c.args.line c.requires.absent
