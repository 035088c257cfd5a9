use Rattle.std.proofs.Common.{◌≡◌, ◌∷◌, None, sym, ◌∙◌}
use Rattle.spd_cache.specs.Cached.{hit}
use Rattle.spd_cache.proofs.Under.{first_later, lacks-head, lacks-tail}
use Rattle.spd_cache.proofs.look.first_hit.Goals as goal

pub answer_but-requires : goal.answer_but-requires
answer_but-requires c =
    let is : c.loop-key.key-iterator ≡ (c.in-Some.key.now, c.in-Some.group.now) ∷ c.next.new.self = c.in-Some.ensures.steps in
    lacks-head c.args.direction c.args.point.now c.args.passed (c.in-Some.key.now, c.in-Some.group.now) c.next.new.self c.loop-key.key-iterator is
    c.loop-key.invariant.1

pub loop-key-preserved : goal.loop-key-preserved
loop-key-preserved c =
    let is : c.loop-key.key-iterator ≡ (c.in-Some.key.now, c.in-Some.group.now) ∷ c.next.new.self = c.in-Some.ensures.steps in
    let none : hit c.args.direction c.args.point.now (c.in-Some.key.now, c.in-Some.group.now) ≡ None = sym c.in_default.ensures in (
      first_later c.args.direction c.args.point.now c.args.passed (c.in-Some.key.now, c.in-Some.group.now) c.next.new.self c.loop-key.key-iterator is none
          ∙ c.loop-key.invariant.0,
      lacks-tail c.args.direction c.args.point.now c.args.passed (c.in-Some.key.now, c.in-Some.group.now) c.next.new.self c.loop-key.key-iterator is
          c.loop-key.invariant.1,
    )
