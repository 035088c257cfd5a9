use Rattle.std.proofs.Common.{◌-◌, ◌≤◌, length}
use Rattle.pair_gap.specs.inner.Peer.{ArePassed}
use Rattle.pair_gap.proofs.peer.PeerEntries.next.Given as goal

-- The entries before the one that is looked at next are passed over.
abbrev pub invariant-loop-index : goal.invariant-loop-index
invariant-loop-index l = record {
  low : l.from ≤ l.first;
  passed : ArePassed l.entry l.self l.from l.first;
}

abbrev pub decreases-loop-index : goal.decreases-loop-index
decreases-loop-index l = length l.self - l.first
