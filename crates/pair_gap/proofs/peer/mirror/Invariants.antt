use Rattle.std.proofs.Common.{◌≡◌, ◌++◌, drop}
use Rattle.pair_gap.specs.inner.Peer.{mirrored}
use Rattle.pair_gap.proofs.peer.mirror.Given as goal

abbrev pub invariant-loop-entry : goal.invariant-loop-entry
invariant-loop-entry l = l.list ++ mirrored (drop l.entry-index l.entries) ≡ mirrored l.entries
