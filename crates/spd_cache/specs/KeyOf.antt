-- The key of a point under a policy.
use Rattle.std.specs.Prelude.{ℕ, ◌+◌, bytes_eq, List, [], ◌∷◌, Option, Some, None, if◌then◌else◌}
use Rattle.sel_box.specs.declared.packet.Direction.{Direction}
use Rattle.sel_box.specs.Point.{PointFields}
use Rattle.spd_line.specs.declared.line.LineParts.{LineParts}
use Rattle.spd_line.specs.declared.pin.Pins.{Pins}
use Rattle.spd_line.specs.First.{first_place, line_at, name_at}
use Rattle.spd_line.specs.Pinned.{pins_of}
use Rattle.spd_cache.specs.declared.key.Key.{Key}

-- The values that a line's flags take from a point. The line `final` has no flags.
abbrev pub pins_at : Option LineParts → PointFields → Pins
pins_at None x = record { family = None; local = None; remote = None; protocol = None; local_field = None; remote_field = None }
pins_at (Some line) x = pins_of line x

-- The key of a point: the direction, the name of its first line, and the values that the flags of that line take from it.
abbrev pub key_of : Direction → PointFields → List LineParts → Key
key_of d x lines =
    let place = first_place d x lines in
    record { direction = d; name = name_at lines place; pins = pins_at (line_at lines place) x }

-- The place of the line of the name, and the place behind the last where there is none: there `final` stands.
abbrev pub place_named : List ℕ → List LineParts → ℕ
place_named name [] = 1
place_named name (line ∷ lines) = if bytes_eq name line.name then 1 else 1 + place_named name lines
