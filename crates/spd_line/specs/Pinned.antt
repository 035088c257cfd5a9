-- The values that a line's populate-from-packet flags take from a packet (RFC 4301 section 4.4.1.2).
use Rattle.std.specs.Prelude.{◌||◌}
use Rattle.std.specs.Bool.{then_some}
use Rattle.sel_box.specs.Point.{PointFields}
use Rattle.spd_line.specs.declared.line.LineParts.{LineParts}
use Rattle.spd_line.specs.declared.pin.Pins.{Pins}

-- The point's value of each flagged selector, and its family where an address is flagged.
abbrev pub pins_of : LineParts → PointFields → Pins
pins_of line x = record {
  family = then_some (line.pfp.local || line.pfp.remote) x.family;
  local = then_some line.pfp.local x.local;
  remote = then_some line.pfp.remote x.remote;
  protocol = then_some line.pfp.protocol x.protocol;
  local_field = then_some line.pfp.local_port x.local_field;
  remote_field = then_some line.pfp.remote_port x.remote_field;
}
