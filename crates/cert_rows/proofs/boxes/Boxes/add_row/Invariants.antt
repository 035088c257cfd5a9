use Rattle.std.proofs.Common.{◌≡◌, ◌++◌, take}
use Rattle.cert_rows.specs.Gathered.{marks_in, regions_in, row_seen}
use Rattle.cert_rows.proofs.boxes.Boxes.add_row.Given as goal

abbrev pub invariant-loop-part : goal.invariant-loop-part
invariant-loop-part l = record {
  regions : l.self.regions ≡ l.initial.self.regions ++ regions_in (row_seen l.gateway (take l.part-index l.row));
  marks : l.self.marks.items ≡ l.initial.self.marks.items ++ marks_in l.place (row_seen l.gateway (take l.part-index l.row));
}
