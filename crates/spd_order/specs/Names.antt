-- The names of an ordered policy's lines.
use Rattle.std.specs.Prelude.{ℕ, ◌+◌, Bool, false, ◌||◌, List, [], ◌∷◌, bytes_eq, Option, option_map, option_and_then, position, slice_get}
use Rattle.std.specs.List.{list_any}
use Rattle.spd_line.specs.declared.line.LineParts.{LineParts}
use Rattle.spd_line.specs.Policy.{all_names, names}

-- The name is that of a line, `final` among them.
abbrev pub is_taken : List ℕ → List LineParts → Bool
is_taken name lines = list_any (bytes_eq name) (all_names lines)

-- Some name stands twice.
abbrev pub has_repeats : List (List ℕ) → Bool
has_repeats [] = false
has_repeats (name ∷ others) = list_any (bytes_eq name) others || has_repeats others

-- Where the line of the name stands: the index from 0, the place from 1.
abbrev pub index_in : List ℕ → List LineParts → Option ℕ
index_in name lines = position (bytes_eq name) (names lines)

abbrev pub place_in : List ℕ → List LineParts → Option ℕ
place_in name lines = option_map (λ index. index + 1) (index_in name lines)

-- The line of the name.
abbrev pub named_line : List ℕ → List LineParts → Option LineParts
named_line name lines = option_and_then (slice_get lines) (index_in name lines)
