use Rattle.std.proofs.Common.{◌≡◌, ◌+◌, ◌-◌, ◌*◌, ◌++◌, length}
use Rattle.sel_text.specs.Text.{six_text}
use Rattle.sel_text.proofs.Printed.{more_groups}
use Rattle.sel_text.proofs.address_text.text_of_six.Given as goal

-- the text so far and the groups to come are the address
abbrev pub invariant-loop-index : goal.invariant-loop-index
invariant-loop-index l =
    (l.text.bytes ++ more_groups (8 - l.index) l.address ≡ six_text l.address) × (length l.text.bytes + 1 ≡ 5 * l.index)
