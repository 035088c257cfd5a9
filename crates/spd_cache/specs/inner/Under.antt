-- The answer of the group under a key.
use Rattle.std.specs.Prelude.{◌≡◌, true, List, All, Option, None}
use Rattle.std.specs.Map.{lookup_entry}
use Rattle.std.specs.Option.{option_and_then}
use Rattle.sel_box.specs.declared.packet.Direction.{Direction}
use Rattle.sel_box.specs.Point.{PointFields}
use Rattle.spd_line.specs.declared.judgement.Answer.{Answer}
use Rattle.spd_cache.specs.declared.key.Key.{Key}
use Rattle.spd_cache.specs.Cached.{Cell, hit}
use Rattle.spd_cache.specs.Key.{same_key}

-- The answer of the group under a key, where there is one and it answers the point.
abbrev pub hit_under : Direction → PointFields → Key → List Cell → Option (Key × Answer)
hit_under d x key cells = option_and_then (hit d x) (lookup_entry (same_key key) cells)

-- No group under the key answers the point.
abbrev pub LacksUnder : Direction → PointFields → List Cell → Key → Type 0
LacksUnder d x cells key = All (λ cell. same_key key cell.0 ≡ true → hit d x cell ≡ None) cells
