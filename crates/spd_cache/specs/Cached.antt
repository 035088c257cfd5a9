-- A cache: groups of boxes under keys, the most recently used first (RFC 4301 section 4.4.2).
use Rattle.std.specs.Prelude.{◌≡◌, ℕ, ◌<◌, ◌≤◌, Bool, ◌&&◌, List, [], ◌∷◌, All, length, take, Option, Some, None, IfSome, option_map, if◌then◌else◌}
use Rattle.std.specs.List.{IsDistinct, find, list_any}
use Rattle.std.specs.Map.{keys_of, lookup_entry, remove_entry}
use Rattle.std.specs.Option.{option_map_or, option_or}
use Rattle.sel_box.specs.declared.packet.Direction.{Direction}
use Rattle.sel_box.specs.Boxes.{box_has}
use Rattle.sel_box.specs.Point.{PointFields}
use Rattle.spd_line.specs.declared.judgement.Answer.{Answer}
use Rattle.spd_line.specs.declared.line_boxes.LineBox.{LineBox}
use Rattle.spd_cache.specs.declared.key.Key.{Key}
use Rattle.spd_cache.specs.Key.{same_direction, same_key}

-- A key and the boxes under it.
abbrev pub Cell : Type 0
Cell = Key × List LineBox

-- The keys with their groups, the most recently used first, and the most that there may be.
pub record Cached : Type 0 where
  pub entries : List Cell
  pub capacity : ℕ

-- The cache with these groups and this capacity.
abbrev pub cached : List Cell → ℕ → Cached
cached entries capacity = record { entries = entries; capacity = capacity }

-- No two groups have one key, and there are at most as many as the capacity, which is one at least.
pub record IsCache (cache : Cached) : Type 0 where
  pub distinct : IsDistinct same_key (keys_of cache.entries)
  pub few : length cache.entries ≤ cache.capacity
  pub some : 0 < cache.capacity

-- Some box of a group has the point.
abbrev pub some_box : PointFields → List LineBox → Bool
some_box x boxes = list_any (λ box. box_has box.region x) boxes

-- The group is one of the direction, and has the point.
abbrev pub holds : Direction → PointFields → Cell → Bool
holds d x cell = same_direction cell.0.direction d && some_box x cell.1

-- The first box of a group that has the point.
abbrev pub first_box : PointFields → List LineBox → Option LineBox
first_box x boxes = find (λ box. box_has box.region x) boxes

-- A point is answered from a group of its direction that has it, by the name in the key and the judgement of that first box.
abbrev pub hit : Direction → PointFields → Cell → Option (Key × Answer)
hit d x cell =
    if same_direction cell.0.direction d
    then option_map (λ (box : LineBox). (cell.0, record { name = cell.0.name; judgement = box.judgement })) (first_box x cell.1)
    else None

-- The answer of the first group that a point is answered from, with the key of that group.
abbrev pub first_hit : Direction → PointFields → List Cell → Option (Key × Answer)
first_hit d x [] = None
first_hit d x (cell ∷ cells) = option_or (hit d x cell) (first_hit d x cells)

-- Each group that a point is answered from answers it as the first such group does.
abbrev pub IsAnsweredAlike : Direction → PointFields → List Cell → Type 0
IsAnsweredAlike d x cells = All (λ cell. IfSome (hit d x cell) (λ found. first_hit d x cells ≡ Some found)) cells

-- The group under a key that passes goes first.
abbrev pub to_front : (Key → Bool) → List Cell → List Cell
to_front test cells = option_map_or (λ cell. cell ∷ remove_entry test cells) (lookup_entry test cells) cells

-- The groups after a look: that of the hit goes first.
abbrev pub fronted : Option (Key × Answer) → List Cell → List Cell
fronted None cells = cells
fronted (Some found) cells = to_front (same_key found.0) cells

-- The groups after one is kept under a key: it goes first, in place of one that was there, and past the capacity the last is dropped.
abbrev pub kept : ℕ → Key → List LineBox → List Cell → List Cell
kept capacity key group cells = take capacity ((key, group) ∷ remove_entry (same_key key) cells)
