use Rattle.std.proofs.Common.{◌≡◌, ◌≤◌, ◌++◌, List, drop, length}
use Rattle.spd_cut.specs.declared.entry.Entry.{Entry}
use Rattle.spd_cut.specs.inner.Cut.{whole_cut}
use Rattle.spd_cut.specs.Entries.{linked}
use Rattle.spd_cut.proofs.cutter.Cutter.add_line.Given as goal

-- What comes of the boxes that are left is what comes of all.
abbrev pub invariant-loop-part : goal.invariant-loop-part
invariant-loop-part l = record {
  cut : (rest : List Entry) → whole_cut l.limit l.self (linked l.place (drop l.part-index l.boxes) ++ rest)
      ≡ whole_cut l.limit l.initial.self (linked l.place l.boxes ++ rest);
  few : length l.self.entries ≤ l.limit;
}
