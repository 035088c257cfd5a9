-- The parts of the line that selects all packets.
use Rattle.std.specs.Prelude.{ℕ, false, List, [], ◌∷◌}
use Rattle.sel_text.specs.declared.item.AddressItem.{AddressItem}
use Rattle.sel_text.specs.declared.port.PortItem.{PortItem}
use Rattle.spd_line.specs.declared.action.Action.{Action}
use Rattle.spd_line.specs.declared.line.LineParts.{LineParts}
use Rattle.spd_line.specs.declared.line.ProtocolItem.{ProtocolItem}
use Rattle.spd_line.specs.declared.line.Way.{Way}

-- Each selector is ANY, none is flagged, and the line is looked at in both directions.
abbrev pub any_line : List ℕ → Action → LineParts
any_line name action = record {
  name = name;
  action = action;
  way = Way.Both;
  local = AddressItem.Any ∷ [];
  remote = AddressItem.Any ∷ [];
  protocol = ProtocolItem.Any;
  local_port = PortItem.Any ∷ [];
  remote_port = PortItem.Any ∷ [];
  pfp = record { local = false; remote = false; protocol = false; local_port = false; remote_port = false };
}
