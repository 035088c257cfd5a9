use Rattle.std.proofs.Common.{ℕ, ap, ◌∙◌}
use Rattle.spd_line.specs.First.{first_place, line_at}
use Rattle.spd_cache.specs.KeyOf.{pins_at}
use Rattle.spd_cut.specs.Entries.{entries}
use Rattle.spd_cut.specs.Group.{group_has, group_of}
use Rattle.spd_groups.proofs.Keyed.{keyed}
use Rattle.spd_groups.proofs.laws.groups_have_the_points_of_their_keys.Goals as goal

pub returns : goal.returns
returns c = λ d y lines policy x real.
    let first = c.the_first_line_is_the_least.ensures in
    let told_y = c.names_tell_their_lines.ensures (first_place d y lines) lines policy (first.low d y lines) (first.high d y lines) in
    let told_x = c.names_tell_their_lines.ensures (first_place d x lines) lines policy (first.low d x lines) (first.high d x lines) in
    ap (λ (place : ℕ). group_has (group_of (entries d lines) place (pins_at (line_at lines (first_place d y lines)) y)) x) told_y
    ∙ c.groups_have_their_points.ensures.has d x lines (entries d lines) (first_place d y lines)
    (pins_at (line_at lines (first_place d y lines)) y) real (c.entries_stand_for.ensures d lines)
    ∙ keyed d y x lines told_y told_x
