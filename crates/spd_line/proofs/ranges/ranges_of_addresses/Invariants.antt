use Rattle.std.proofs.Common.{◌≡◌, take}
use Rattle.std.specs.List.{flat_map}
use Rattle.spd_line.specs.LineBoxes.{address_ranges}
use Rattle.spd_line.proofs.ranges.ranges_of_addresses.Given as goal

abbrev pub invariant-loop-item : goal.invariant-loop-item
invariant-loop-item g l = l.ranges.items ≡ flat_map (address_ranges l.family) (take l.item-index l.items)
