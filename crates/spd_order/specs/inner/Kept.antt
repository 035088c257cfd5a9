-- What the table of a policy's lines keeps.
use Rattle.std.specs.Prelude.{◌≡◌, ℕ, List}
use Rattle.std.specs.Map.{keys_of, values_of}
use Rattle.spd_line.specs.declared.line.LineParts.{LineParts}
use Rattle.spd_line.specs.Policy.{names, IsPolicy}

-- Each line stands under its own name, and the lines are those of a policy.
pub record HoldsPolicy (entries : List (List ℕ × LineParts)) : Type 0 where
  pub own : keys_of entries ≡ names (values_of entries)
  pub policy : IsPolicy (values_of entries)
