use Rattle.std.proofs.Common.{sym, subst}
use Rattle.sel_box.specs.Point.{PointFields}
use Rattle.spd_cache.specs.Cached.{IsAnsweredAlike}
use Rattle.spd_lanes.proofs.steps.ask.Goals as goal

pub recall-requires : goal.recall-requires
recall-requires c = record {
  alike = subst (λ (x : PointFields). IsAnsweredAlike c.args.direction x c.args.cache.now.entries) (sym c.view-point.ensures.value) c.requires.alike;
}
