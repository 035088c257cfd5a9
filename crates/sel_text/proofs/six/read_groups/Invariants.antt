use Rattle.std.proofs.Common.{◌≡◌, length, option_and_then}
use Rattle.sel_text.specs.Six.{groups_in}
use Rattle.sel_text.specs.inner.Reading.{counted_groups}
use Rattle.sel_text.proofs.Groups.{counted_after}
use Rattle.sel_text.proofs.six.read_groups.Given as goal

-- the groups to come, after those so far, make the number
abbrev pub invariant-loop-group : goal.invariant-loop-group
invariant-loop-group l =
    option_and_then (counted_after l.groups) (groups_in l.rest) ≡ counted_groups l.text

abbrev pub decreases-loop-group : goal.decreases-loop-group
decreases-loop-group l = length l.rest
