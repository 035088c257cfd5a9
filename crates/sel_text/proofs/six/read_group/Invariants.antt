use Rattle.std.proofs.Common.{◌≡◌, ◌<◌, ◌^◌, drop}
use Rattle.std.specs.List.{list_all}
use Rattle.std.specs.Char.{is_ascii_hexdigit}
use Rattle.std.specs.Str.Parse.{digits_value, digits_value_after}
use Rattle.sel_text.proofs.six.read_group.Given as goal

-- the digits to come decide whether all are digits, and after those of `value` they write the group
abbrev pub invariant-loop-byte : goal.invariant-loop-byte
invariant-loop-byte l =
    (digits_value_after 16 l.value (drop l.byte-index l.text) ≡ digits_value 16 l.text)
    × (list_all is_ascii_hexdigit (drop l.byte-index l.text) ≡ list_all is_ascii_hexdigit l.text)
    × (l.value < 16 ^ l.byte-index)
