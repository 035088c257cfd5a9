use Rattle.std.proofs.Common.{◌≡◌, length}
use Rattle.pair_io.proofs.Gains.{GainsSoFar}
use Rattle.cert_text.specs.Valid.{whole_boxes}
use Rattle.cert_make.specs.Trees.{trees_of}
use Rattle.cert_make.specs.inner.Sides.{node_by, trees_text}
use Rattle.cert_make.specs.inner.Starts.{AreStarts}
use Rattle.cert_make.proofs.writing.write_trees.Given as goal

-- What was written and the trees over the boxes that are left are the text of all, and the searches in these begin where
-- they may.
abbrev pub invariant-loop-region : goal.invariant-loop-region
invariant-loop-region g l = record {
  written : GainsSoFar (g.O.Sink.told l.initial.out) (g.O.Sink.told l.out)
      (trees_text (node_by l.ours l.theirs) l.todo) (trees_text (node_by l.ours l.theirs) whole_boxes);
  faults : g.O.Sink.faults l.out ≡ g.O.Sink.faults l.initial.out;
  starts : AreStarts l.ours l.theirs l.todo l.starts;
}

abbrev pub decreases-loop-region : goal.decreases-loop-region
decreases-loop-region g l = length (trees_of (node_by l.ours l.theirs) l.todo)
