-- What a change that is asked for makes of an ordered policy.
use Rattle.std.specs.Prelude.{List, Result}
use Rattle.spd_line.specs.declared.line.LineParts.{LineParts}
use Rattle.spd_order.specs.declared.change.Change.{Change}
use Rattle.spd_order.specs.declared.fault.OrderFault.{OrderFault}
use Rattle.spd_order.specs.Edits.{deleted, inserted, moved}

-- The lines after the change, or its first fault.
abbrev pub changed : Change → List LineParts → Result (List LineParts) OrderFault
changed (Change.Insert place line) lines = inserted place line.now lines
changed (Change.Delete name) lines = deleted name.now lines
changed (Change.Move name place) lines = moved name.now place lines
