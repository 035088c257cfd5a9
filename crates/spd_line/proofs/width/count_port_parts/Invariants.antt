use Rattle.std.proofs.Common.{◌≡◌, min, ◌-◌, ◌^◌, take}
use Rattle.spd_line.specs.Width.{port_parts}
use Rattle.spd_line.proofs.width.count_port_parts.Given as goal

abbrev pub invariant-loop-item : goal.invariant-loop-item
invariant-loop-item l = l.parts ≡ min (port_parts l.is_flagged (take l.item-index l.items)) (2 ^ 64 - 1)
