use Rattle.std.proofs.Common.{◌≡◌, ◌≤◌, ℕ, List, [], length, drop, map, nat_cmp}
use Rattle.std.specs.BTreeSet.{contains}
use Rattle.std.specs.Cmp.Lexicographic.{slice_cmp}
use Rattle.std.specs.List.{list_any}
use Rattle.std.specs.Str.{bytes_eq}
use Rattle.toml.specs.View.{view}
use Rattle.spd_line.specs.Policy.{names}
use Rattle.spd_file.specs.Policy.{lines_behind}
use Rattle.spd_file.proofs.Names.{AreNew}
use Rattle.spd_file.proofs.policy.read_each.Given as goal

-- The lines so far, and then those of the values that are left, are the lines of all; the set has the
-- names of the lines so far.
abbrev pub invariant-loop-value : goal.invariant-loop-value
invariant-loop-value l = record {
  lines : lines_behind [] (map view l.values) ≡ lines_behind l.lines (map view (drop l.value-index l.values));
  few : length l.lines ≤ l.value-index;
  new : AreNew l.lines;
  found : (name : List ℕ) → contains (slice_cmp nat_cmp) l.names name ≡ list_any (bytes_eq name) (names l.lines);
}
