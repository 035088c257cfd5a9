use Rattle.std.proofs.Common.{◌≡◌, List, Option, Some, option_map, sym, ap, ◌∙◌}
use Rattle.lru.specs.LruCache.{LruCache}
use Rattle.spd_line.specs.declared.judgement.Answer.{Answer}
use Rattle.spd_line.specs.declared.line_boxes.LineBox.{LineBox}
use Rattle.spd_cache.specs.declared.key.Key.{Key}
use Rattle.spd_cache.specs.Cached.{Cached, cached, fronted, to_front}
use Rattle.spd_cache.specs.Key.{same_key}
use Rattle.spd_cache.specs.inner.Under.{hit_under}
use Rattle.spd_cache.proofs.Under.{alike_under}
use Rattle.spd_cache.proofs.cache.Cache.recall.Goals as goal

pub returns-in-Some-answer_under-clause-answer : goal.returns-in-Some-answer_under-clause-answer
returns-in-Some-answer_under-clause-answer c =
    let under : hit_under c.args.direction c.args.point.now c.in-Some.noted c.args.self.now.entries ≡ Some (c.in-Some.noted, c.in-Some-answer_under.answer) =
    rw (← c.self.view_is) (sym c.in-Some-answer_under.ensures.answer) in
    sym (ap (option_map (λ (found : Key × Answer). found.1))
    (alike_under c.args.direction c.args.point.now c.in-Some.noted c.args.self.now.entries c.requires.alike c.in-Some-answer_under.answer under))

pub returns-in-Some-answer_under-clause-front : goal.returns-in-Some-answer_under-clause-front
returns-in-Some-answer_under-clause-front c =
    let under : hit_under c.args.direction c.args.point.now c.in-Some.noted c.args.self.now.entries ≡ Some (c.in-Some.noted, c.in-Some-answer_under.answer) =
    rw (← c.self.view_is) (sym c.in-Some-answer_under.ensures.answer) in
    ap (λ (groups : LruCache Key (List LineBox)). cached groups.entries groups.cap) c.promote.ensures.entries
    ∙ ap (λ (now : Cached). cached (to_front (same_key c.in-Some.noted) now.entries) now.capacity) c.self.view_is
    ∙ ap (λ (hit : Option (Key × Answer)). cached (fronted hit c.args.self.now.entries) c.args.self.now.capacity)
    (sym (alike_under c.args.direction c.args.point.now c.in-Some.noted c.args.self.now.entries c.requires.alike c.in-Some-answer_under.answer under))
