use Rattle.std.proofs.Common.{◌≡◌, List, length}
use Rattle.spd_line.specs.declared.line.LineParts.{LineParts}
use Rattle.cert_text.specs.Valid.{whole_boxes}
use Rattle.cert_make.specs.Trees.{trees_of}
use Rattle.cert_make.specs.inner.Sides.{AreSides, are_valid, node_by}
use Rattle.cert_make.specs.inner.Starts.{AreStarts}
use Rattle.cert_make.proofs.agreeing.all_hold.Given as goal

-- All nodes hold where those over the boxes that are left do, and the searches in these begin where they may.
abbrev pub invariant-loop-region : goal.invariant-loop-region
invariant-loop-region l = record {
  left : (a b : List LineParts) → AreSides a b l.ours l.theirs → are_valid a b l.ours l.theirs l.todo ≡ are_valid a b l.ours l.theirs whole_boxes;
  starts : AreStarts l.ours l.theirs l.todo l.starts;
}

abbrev pub decreases-loop-region : goal.decreases-loop-region
decreases-loop-region l = length (trees_of (node_by l.ours l.theirs) l.todo)
