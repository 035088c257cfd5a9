use Rattle.std.proofs.Common.{Bool, ◌==◌, ◌&&◌, cond, Some, None, ap, ◌∙◌}
use Rattle.sel_box.proofs.RealPoints.{is_point-from_real}
use Rattle.spd_line.specs.First.{first_place, verdict_of}
use Rattle.spd_cut.specs.Group.{group_of, pins_fit}
use Rattle.spd_cut.proofs.Groups.{first-judged, group-has, group-judged, some_from_one}
use Rattle.spd_cut.proofs.group_laws.groups_have_their_points.Goals as goal

pub returns-clause-has : goal.returns-clause-has
returns-clause-has c = λ d x lines list place pins real stands.
    group-has (first_place d x lines) place pins x list (is_point-from_real x real) (stands.link x (is_point-from_real x real))
    ∙ ap (λ (some : Bool). some && ((first_place d x lines == place) && pins_fit pins x))
    (some_from_one x list (stands.one x real))

pub returns-clause-judged : goal.returns-clause-judged
returns-clause-judged c = λ d x lines list place pins real stands.
    group-judged place pins x (verdict_of d x lines).judgement list (is_point-from_real x real) (stands.judged x (is_point-from_real x real))

pub returns-clause-first : goal.returns-clause-first
returns-clause-first c = λ d x lines list place pins real stands.
    first-judged x (verdict_of d x lines).judgement (group_of list place pins) (returns-clause-judged c d x lines list place pins real stands)
    ∙ ap (λ (has : Bool). cond has (Some (verdict_of d x lines).judgement) None) (returns-clause-has c d x lines list place pins real stands)
