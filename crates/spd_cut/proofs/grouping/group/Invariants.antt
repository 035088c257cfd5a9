use Rattle.std.proofs.Common.{◌≡◌, ◌++◌, drop}
use Rattle.spd_cut.specs.Group.{group_of}
use Rattle.spd_cut.proofs.grouping.group.Given as goal

-- What was put, and then what the entries that are left give, is what all give.
abbrev pub invariant-loop-entry : goal.invariant-loop-entry
invariant-loop-entry l = l.list ++ group_of (drop l.entry-index l.entries) l.link l.pins ≡ group_of l.entries l.link l.pins
