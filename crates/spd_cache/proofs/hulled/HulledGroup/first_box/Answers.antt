use Rattle.std.proofs.Common.{◌≡◌, false, sym, ap, ◌∙◌}
use Rattle.spd_cache.specs.Cached.{first_box}
use Rattle.spd_cache.specs.inner.Hulls.{hulls_have}
use Rattle.spd_cache.proofs.Widened.{none_has}
use Rattle.spd_cache.proofs.hulled.HulledGroup.first_box.Goals as goal

pub returns-then-not-have : goal.returns-then-not-have
returns-then-not-have c =
    let lacks : hulls_have c.self.inside.hulls c.args.point.now ≡ false = cc in
    sym (none_has c.self.inside.hulls c.args.point.now c.self.inside.group c.self.invariant lacks) ∙ ap (first_box c.args.point.now) c.self.view_is
