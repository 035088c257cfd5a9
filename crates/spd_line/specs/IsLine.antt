-- What makes some parts a line (RFC 4301 section 4.4.1).
use Rattle.std.specs.Prelude.{◌≡◌, ◌≢◌, [], None}
use Rattle.spd_line.specs.declared.line.LineParts.{LineParts}
use Rattle.spd_line.specs.Fault.{line_fault}

-- The parts have no fault, and each selector that is a list has an item.
pub record IsLine (parts : LineParts) : Type 0 where
  pub sound : line_fault parts ≡ None
  pub local : parts.local ≢ []
  pub remote : parts.remote ≢ []
  pub local_port : parts.local_port ≢ []
  pub remote_port : parts.remote_port ≢ []
