use Rattle.std.proofs.Common.{Bool, cond, Some, None, sym, ap, ◌∙◌}
use Rattle.spd_line.specs.First.{verdict_of}
use Rattle.spd_cache.specs.KeyOf.{place_named}
use Rattle.spd_cut.specs.Entries.{entries}
use Rattle.spd_groups.proofs.Answered.{answered_alike}
use Rattle.spd_groups.proofs.laws.groups_answer_alike.Goals as goal

pub returns : goal.returns
returns c = λ d x lines cells real groups.
    answered_alike d x lines cells real groups (λ key.
    let laws = c.groups_have_their_points.ensures in
    let stands = c.entries_stand_for.ensures key.direction lines in
    laws.first key.direction x lines (entries key.direction lines) (place_named key.name lines) key.pins real stands
    ∙ ap (λ (test : Bool). cond test (Some (verdict_of key.direction x lines).judgement) None)
    (sym (laws.has key.direction x lines (entries key.direction lines) (place_named key.name lines) key.pins real stands)))
