use Rattle.std.proofs.Common.{◌≡◌, ◌-◌, ◌≤◌, [], drop, length}
use Rattle.spd_cut.specs.inner.Cut.{whole_cut}
use Rattle.spd_cut.specs.Entries.{linked_boxes}
use Rattle.spd_cut.proofs.decorrelation.decorrelate.Given as goal

-- What comes of the lines that are left is what comes of all.
abbrev pub invariant-loop-place : goal.invariant-loop-place
invariant-loop-place g l = record {
  cut : whole_cut l.limit l.cutter (linked_boxes l.direction l.place (drop (l.place - 1) (g.L.Lines.lines l.lines)))
      ≡ whole_cut l.limit record { earlier = []; entries = [] } (linked_boxes l.direction 1 (g.L.Lines.lines l.lines));
  few : length l.cutter.entries ≤ l.limit;
}
