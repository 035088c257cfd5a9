-- Edits of an ordered policy, which is a list of lines whose places count from 1 (RFC 4301 section 4.4.1).
use Rattle.std.specs.Prelude.{ℕ, ◌+◌, ◌-◌, Bool, ◌&&◌, nat_le, nat_lt, List, length, insert, remove, slice_get, Option, Some, None, Result, Ok, Err}
use Rattle.std.specs.Prelude.{if◌then◌else◌}
use Rattle.std.specs.Option.{option_map_or}
use Rattle.spd_line.specs.declared.line.LineParts.{LineParts}
use Rattle.spd_line.specs.Policy.{all_names, most_lines}
use Rattle.spd_order.specs.declared.fault.OrderFault.{OrderFault}
use Rattle.spd_order.specs.Names.{has_repeats, index_in, is_taken}

-- Why some lines make no policy: there are too many, or a name stands twice.
abbrev pub policy_fault : List LineParts → Option OrderFault
policy_fault lines =
    if nat_lt most_lines (length lines) then Some OrderFault.TooManyLines
    else if has_repeats (all_names lines) then Some OrderFault.NameTaken
    else None

-- The place is one from 1 to the last.
abbrev pub is_place : ℕ → ℕ → Bool
is_place place last = nat_le 1 place && nat_le place last

-- The lines with a further one at the place, or why it can't stand there.
abbrev pub inserted : ℕ → LineParts → List LineParts → Result (List LineParts) OrderFault
inserted place line lines =
    if nat_le most_lines (length lines) then Err OrderFault.TooManyLines
    else if is_taken line.name lines then Err OrderFault.NameTaken
    else if is_place place (length lines + 1) then Ok (insert lines (place - 1) line)
    else Err OrderFault.BadPlace

-- The lines without the one at the index.
abbrev pub deleted_at : Option ℕ → List LineParts → Result (List LineParts) OrderFault
deleted_at None lines = Err OrderFault.NoSuchName
deleted_at (Some index) lines = Ok (remove lines index)

-- The lines without the one of the name.
abbrev pub deleted : List ℕ → List LineParts → Result (List LineParts) OrderFault
deleted name lines = deleted_at (index_in name lines) lines

-- A list with the item at an index taken out and put in at another.
abbrev pub moved_item : {X : Type 0} → ℕ → ℕ → List X → List X
moved_item from to xs = option_map_or (λ x. insert (remove xs from) to x) (slice_get xs from) xs

-- The lines with the one at the index at the place.
abbrev pub moved_at : Option ℕ → ℕ → List LineParts → Result (List LineParts) OrderFault
moved_at None place lines = Err OrderFault.NoSuchName
moved_at (Some index) place lines =
    if is_place place (length lines) then Ok (moved_item index (place - 1) lines) else Err OrderFault.BadPlace

-- The lines with the one of the name at the place, all others in their order.
abbrev pub moved : List ℕ → ℕ → List LineParts → Result (List LineParts) OrderFault
moved name place lines = moved_at (index_in name lines) place lines
