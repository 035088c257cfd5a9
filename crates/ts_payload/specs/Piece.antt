-- One selector in a payload, by its fields and its length (RFC 7296 section 3.13.1).
use Rattle.std.specs.Prelude.{ℕ, ◌+◌, Bool, true, ◌==◌, ◌&&◌, nat_le, List, length, take, drop, Option, Some, None, if◌then◌else◌}
use Rattle.sel_text.specs.declared.family.Family.{Family}
use Rattle.sel_text.specs.declared.family.Family.TheVariants.{Four, Six}
use Rattle.ts_payload.specs.declared.selector.Ts.{Ts}
use Rattle.ts_payload.specs.declared.fault.TsFault.{TsFault}
use Rattle.ts_payload.specs.declared.fault.TsFault.TheVariants.{CountMismatch, SelectorLength}
use Rattle.ts_payload.specs.Number.{number_at}
use Rattle.ts_payload.specs.Selector.{keeps_rules, rule_fault}

-- The TS Type, and the Selector Length.
abbrev pub type_in : List ℕ → ℕ
type_in bytes = number_at 0 1 bytes

abbrev pub length_in : List ℕ → ℕ
length_in bytes = number_at 2 2 bytes

-- Type 7 has 16 bytes, type 8 has 40, and another type at least the 4 bytes up to its length.
abbrev pub has_length : ℕ → ℕ → Bool
has_length type_number len =
    if type_number == 7 then len == 16 else if type_number == 8 then len == 40 else nat_le 4 len

-- The values of a selector whose addresses have so many bytes.
abbrev pub values_in : Family → ℕ → List ℕ → Ts
values_in family address_len bytes = record {
  family = family;
  protocol = number_at 1 1 bytes;
  start_port = number_at 4 2 bytes;
  end_port = number_at 6 2 bytes;
  start = number_at 8 address_len bytes;
  «end» = number_at (8 + address_len) address_len bytes;
}

-- The selector that bytes have: type 7 has IPv4 addresses, type 8 has IPv6 addresses, and another is passed over.
abbrev pub selector_in : List ℕ → Option Ts
selector_in bytes =
    if type_in bytes == 7 then Some (values_in Four 4 bytes)
    else if type_in bytes == 8 then Some (values_in Six 16 bytes)
    else None

-- The bytes begin with a selector that ends within them.
abbrev pub begins_whole : List ℕ → Bool
begins_whole bytes =
    nat_le 4 (length bytes) && (nat_le (length_in bytes) (length bytes) && has_length (type_in bytes) (length_in bytes))

-- The selector that bytes begin with, and what stands behind it.
abbrev pub first_piece : List ℕ → List ℕ
first_piece bytes = take (length_in bytes) bytes

abbrev pub behind_piece : List ℕ → List ℕ
behind_piece bytes = drop (length_in bytes) bytes

-- The fault of a selector with this index, where there is one: what is passed over breaks no rule.
abbrev pub piece_fault : ℕ → Option Ts → Option TsFault
piece_fault index None = None
piece_fault index (Some selector) = rule_fault index selector

-- The fault at the selector with this index, of which these bytes are left: none are, its length is wrong, or it breaks a rule.
abbrev pub next_fault : ℕ → List ℕ → Option TsFault
next_fault index bytes =
    if length bytes == 0 then Some CountMismatch
    else if begins_whole bytes then piece_fault index (selector_in (first_piece bytes))
    else Some (SelectorLength index)

-- What is passed over keeps the rules.
abbrev pub piece_keeps_rules : Option Ts → Bool
piece_keeps_rules None = true
piece_keeps_rules (Some selector) = keeps_rules selector

-- These bytes are one selector: the length in them is theirs and suits the type, and the rules are kept.
abbrev pub is_piece : List ℕ → Bool
is_piece bytes =
    nat_le 4 (length bytes) && ((length_in bytes == length bytes)
    && (has_length (type_in bytes) (length bytes) && piece_keeps_rules (selector_in bytes)))
