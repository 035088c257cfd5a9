-- What holds of the parts of a line that are read.
use Rattle.std.specs.Prelude.{◌≢◌, []}
use Rattle.spd_line.specs.declared.line.LineParts.{LineParts}
use Rattle.spd_line.specs.Policy.{final_name}

-- The name isn't reserved, and each list has an item.
pub record IsReady (parts : LineParts) : Type 0 where
  pub unreserved : parts.name ≢ final_name
  pub local : parts.local ≢ []
  pub remote : parts.remote ≢ []
  pub local_port : parts.local_port ≢ []
  pub remote_port : parts.remote_port ≢ []
