use Rattle.std.proofs.Common.{sym, ◌∙◌}
use Rattle.spd_index.proofs.Parted.{address_has-between, IsPart-rises}
use Rattle.spd_index.proofs.rows.Rows.mark_item.Goals as goal

pub returns-in-Some-clause-marked : goal.returns-in-Some-clause-marked
returns-in-Some-clause-marked c = λ address part has is.
    let starts = c.args.self.now.starts.items in
    let before = rw c.mark-in-Some.ensures.kept.starts at is in
    let between = address_has-between c.args.family address c.args.item.now c.in-Some.first c.in-Some.last (sym c.ends_of.ensures ∙ c.in-Some.is) has in
    c.mark-in-Some.ensures.marked part
    (IsPart-rises starts c.in-Some.first address c.part_of-first.result part c.part_of-first.ensures before between.0)
    (IsPart-rises starts address c.in-Some.last part c.part_of-last.result before c.part_of-last.ensures between.1)
