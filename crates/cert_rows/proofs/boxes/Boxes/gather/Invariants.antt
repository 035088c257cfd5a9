use Rattle.std.proofs.Common.{◌≡◌, ◌-◌, ◌++◌, drop}
use Rattle.cert_rows.specs.Gathered.{marks_of, regions_of, rows_at}
use Rattle.cert_rows.proofs.boxes.Boxes.gather.Given as goal

-- What is gathered and the boxes of the lines that are left are the boxes of all.
abbrev pub invariant-loop-place : goal.invariant-loop-place
invariant-loop-place g l = record {
  regions : l.all.regions ++ regions_of (rows_at l.gateway (drop (l.place - 1) (g.L.Lines.lines l.lines)))
      ≡ regions_of (rows_at l.gateway (g.L.Lines.lines l.lines));
  marks : l.all.marks.items ++ marks_of l.place (rows_at l.gateway (drop (l.place - 1) (g.L.Lines.lines l.lines)))
      ≡ marks_of 1 (rows_at l.gateway (g.L.Lines.lines l.lines));
}
