-- Where the lines of a policy stand: on one side, on both sides, in both families.
use Rattle.std.specs.Prelude.{◌≡◌, ℕ, ◌*◌, ◌≤◌, List, Some, length, slice_get}
use Rattle.std.specs.List.{list_any}
use Rattle.sel_text.specs.declared.family.Family.{Family}
use Rattle.sel_text.specs.declared.family.Family.TheVariants.{Four, Six}
use Rattle.spd_line.specs.declared.line.LineParts.{LineParts}
use Rattle.spd_line.specs.Selects.{address_has}
use Rattle.spd_index.specs.declared.ends.Side.{Side}
use Rattle.spd_index.specs.declared.index.Families.{Families}
use Rattle.spd_index.specs.declared.rows.Rows.{Rows}
use Rattle.spd_index.specs.declared.sides.Sides.{Sides}
use Rattle.spd_index.specs.inner.Ends.{items_of}
use Rattle.spd_index.specs.inner.Rows.{StandsWhere}

-- The rows have a bit for each line, and each line stands in the parts of the addresses that it has on the side.
pub record Holds (family : Family) (side : Side) (rows : Rows) (lines : List LineParts) : Type 0 where
  pub wide : length lines ≤ 64 * rows.width
  pub held : (k : ℕ) (line : LineParts) → slice_get lines k ≡ Some line →
      StandsWhere (λ a. list_any (address_has family a) (items_of side line)) rows k

-- So do those of both sides.
pub record AreSidesOf (family : Family) (sides : Sides) (lines : List LineParts) : Type 0 where
  pub local : Holds family Side.Local sides.local lines
  pub remote : Holds family Side.Remote sides.remote lines

-- And those of both families.
pub record AreFamiliesOf (families : Families) (lines : List LineParts) : Type 0 where
  pub four : AreSidesOf Four families.four lines
  pub six : AreSidesOf Six families.six lines
