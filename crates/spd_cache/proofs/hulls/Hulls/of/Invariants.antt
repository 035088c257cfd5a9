use Rattle.std.proofs.Common.{take}
use Rattle.spd_cache.specs.inner.Hulls.{AreHulls}
use Rattle.spd_cache.proofs.hulls.Hulls.of.Given as goal

-- The hulls have all points of the boxes so far.
abbrev pub invariant-loop-part : goal.invariant-loop-part
invariant-loop-part l = AreHulls l.hulls (take l.part-index l.boxes)
