use Rattle.std.proofs.Common.{◌≡◌, List, Some, None, sym, ap, ◌∙◌}
use Rattle.std.specs.Map.{lookup}
use Rattle.std.specs.Option.{option_and_then}
use Rattle.spd_line.specs.declared.line_boxes.LineBox.{LineBox}
use Rattle.spd_cache.specs.Cached.{hit}
use Rattle.spd_cache.specs.Key.{same_key}
use Rattle.spd_cache.proofs.Under.{lacks_where, under_is}
use Rattle.spd_cache.proofs.look.answer_under.Goals as goal

pub returns-in-Some-clause-answer : goal.returns-in-Some-clause-answer
returns-in-Some-clause-answer c =
    let is : lookup (same_key c.args.key.now) c.args.groups.now.entries ≡ Some c.in-Some.group.now = sym c.in-Some.ensures in
    c.answer_of.ensures
    ∙ sym (under_is c.args.direction c.args.point.now c.args.key.now c.args.groups.now.entries
    ∙ ap (option_and_then (λ (group : List LineBox). hit c.args.direction c.args.point.now (c.args.key.now, group))) is)

pub returns-in-Some-clause-lacks : goal.returns-in-Some-clause-lacks
returns-in-Some-clause-lacks c =
    lacks_where c.args.direction c.args.point.now c.args.key.now c.args.groups.now.entries c.answer_of.result c.len.ensures.valid.0
    (returns-in-Some-clause-answer c)

pub returns-in-None-clause-answer : goal.returns-in-None-clause-answer
returns-in-None-clause-answer c =
    let is : lookup (same_key c.args.key.now) c.args.groups.now.entries ≡ None = sym c.in-None.ensures in
    sym (under_is c.args.direction c.args.point.now c.args.key.now c.args.groups.now.entries
    ∙ ap (option_and_then (λ (group : List LineBox). hit c.args.direction c.args.point.now (c.args.key.now, group))) is)

pub returns-in-None-clause-lacks : goal.returns-in-None-clause-lacks
returns-in-None-clause-lacks c =
    lacks_where c.args.direction c.args.point.now c.args.key.now c.args.groups.now.entries None c.len.ensures.valid.0 (returns-in-None-clause-answer c)
