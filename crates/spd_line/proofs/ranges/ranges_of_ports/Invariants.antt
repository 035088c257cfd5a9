use Rattle.std.proofs.Common.{◌≡◌, take}
use Rattle.std.specs.List.{flat_map}
use Rattle.spd_line.specs.LineBoxes.{port_ranges}
use Rattle.spd_line.proofs.ranges.ranges_of_ports.Given as goal

abbrev pub invariant-loop-item : goal.invariant-loop-item
invariant-loop-item l = l.ranges.items ≡ flat_map (port_ranges l.is_flagged) (take l.item-index l.items)
