-- When two keys of a cache are the same.
use Rattle.std.specs.Prelude.{Bool, true, false, ◌&&◌, bytes_eq, nat_eq}
use Rattle.std.specs.Option.{option_eq}
use Rattle.sel_box.specs.declared.packet.Direction.{Direction}
use Rattle.sel_box.specs.declared.packet.Direction.TheVariants.{Outbound, Inbound}
use Rattle.sel_text.specs.Family.{same_family}
use Rattle.spd_line.specs.declared.pin.Pins.{Pins}
use Rattle.spd_cache.specs.declared.key.Key.{Key}

-- Two directions are the same.
abbrev pub same_direction : Direction → Direction → Bool
same_direction Outbound Outbound = true
same_direction Inbound Inbound = true
same_direction Outbound Inbound = false
same_direction Inbound Outbound = false

-- Two keys take the same values from a packet.
abbrev pub same_pins : Pins → Pins → Bool
same_pins a b =
    option_eq same_family a.family b.family
    && (option_eq nat_eq a.local b.local
    && (option_eq nat_eq a.remote b.remote
    && (option_eq nat_eq a.protocol b.protocol
    && (option_eq nat_eq a.local_field b.local_field && option_eq nat_eq a.remote_field b.remote_field))))

-- Two keys are the same: direction, name and values.
abbrev pub same_key : Key → Key → Bool
same_key a b = same_direction a.direction b.direction && (bytes_eq a.name b.name && same_pins a.pins b.pins)
