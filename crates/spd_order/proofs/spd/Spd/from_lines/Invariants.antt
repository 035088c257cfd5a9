use Rattle.std.proofs.Common.{◌≡◌, length, take}
use Rattle.spd_line.specs.Policy.{IsPolicy}
use Rattle.spd_order.proofs.spd.Spd.from_lines.Given as goal

abbrev pub invariant-loop-line : goal.invariant-loop-line
invariant-loop-line l = record {
  so_far : l.spd ≡ take (length l.yielded) l.fn.lines;
  policy : IsPolicy l.spd;
}
