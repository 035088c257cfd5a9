-- Which lines an index is of.
use Rattle.std.specs.Prelude.{List}
use Rattle.std.specs.Option.{ForSome}
use Rattle.spd_line.specs.declared.line.LineParts.{LineParts}
use Rattle.spd_index.specs.declared.index.Index.{Index}
use Rattle.spd_index.specs.inner.Held.{AreFamiliesOf}

-- The index is of the lines: if it has rows, each line stands in them wherever it has an address.
pub record IsIndexOf (index : Index) (lines : List LineParts) : Type 0 where
  pub held : ForSome index.families (λ families. AreFamiliesOf families lines)
