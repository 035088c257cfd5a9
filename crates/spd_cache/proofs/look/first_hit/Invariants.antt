use Rattle.std.proofs.Common.{◌≡◌, IfSome}
use Rattle.spd_cache.specs.Cached.{first_hit}
use Rattle.spd_cache.specs.inner.Under.{LacksUnder}
use Rattle.spd_cache.proofs.look.first_hit.Given as goal

-- What the groups that are left answer is what all answer, and the one that is passed over has no answer.
abbrev pub invariant-loop-key : goal.invariant-loop-key
invariant-loop-key l =
    (first_hit l.direction l.point l.key-iterator ≡ first_hit l.direction l.point l.groups.entries)
    × IfSome l.passed (LacksUnder l.direction l.point l.key-iterator)
