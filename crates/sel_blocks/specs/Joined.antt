-- Blocks of regions.
use Rattle.std.specs.Prelude.{List}
use Rattle.std.specs.List.{flat_map}

-- the regions of some blocks, one block after another
abbrev pub joined : {R : Type 0} → List (List R) → List R
joined blocks = flat_map (λ block. block) blocks
