-- What reading a payload from left to right gives: its selectors, or the first fault.
use Rattle.std.specs.Prelude.{ℕ, zero, suc, ◌+◌, ◌==◌, nat_le, nat_lt, List, [], ◌++◌, length, drop, Option, Some, None, Result, Ok, Err, if◌then◌else◌}
use Rattle.std.specs.Option.{option_to_list}
use Rattle.ts_payload.specs.declared.selector.Ts.{Ts}
use Rattle.ts_payload.specs.declared.fault.TsFault.{TsFault}
use Rattle.ts_payload.specs.declared.fault.TsFault.TheVariants.{Short, LengthMismatch, TooMany, CountMismatch}
use Rattle.ts_payload.specs.Piece.{behind_piece, first_piece, next_fault, selector_in}
use Rattle.ts_payload.specs.Payload.{payload_length, selector_count}

-- What was read before, and what is read behind it.
abbrev pub with_front : List Ts → Result (List Ts) TsFault → Result (List Ts) TsFault
with_front front (Ok selectors) = Ok (front ++ selectors)
with_front front (Err fault) = Err fault

-- The fault where there is one, and else what is read.
abbrev pub unless_fault : Option TsFault → Result (List Ts) TsFault → Result (List Ts) TsFault
unless_fault (Some fault) read = Err fault
unless_fault None read = read

-- What so many selectors give, the first with this index, which are all that is left.
unfoldable pub selectors_of : ℕ → ℕ → List ℕ → Result (List Ts) TsFault
selectors_of zero index bytes = if length bytes == 0 then Ok [] else Err CountMismatch
selectors_of (suc count) index bytes =
    unless_fault (next_fault index bytes)
    (with_front (option_to_list (selector_in (first_piece bytes))) (selectors_of count (index + 1) (behind_piece bytes)))

-- What a payload gives.
unfoldable pub payload_of : List ℕ → Result (List Ts) TsFault
payload_of bytes =
    if nat_lt (length bytes) 8 then Err Short
    else if payload_length bytes == length bytes
    then (if nat_le (selector_count bytes) 127 then selectors_of (selector_count bytes) 1 (drop 8 bytes) else Err TooMany)
    else Err LengthMismatch
