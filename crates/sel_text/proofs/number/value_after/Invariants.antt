use Rattle.std.proofs.Common.{◌≡◌, ◌<◌, ◌^◌, drop}
use Rattle.std.specs.Str.Parse.{digits_value_after}
use Rattle.sel_text.proofs.number.value_after.Given as goal

-- the digits to come, after those of `value`, write the number
abbrev pub invariant-loop-digit : goal.invariant-loop-digit
invariant-loop-digit l =
    (digits_value_after 10 l.value (drop l.digit-index l.digits) ≡ digits_value_after 10 l.number l.digits) × (l.value < 2 ^ 128)
