-- Why the nodes of a certificate weren't written to their end.
use Rattle.std.specs.Prelude.{◌≡◌, ℕ}
use Rattle.pair_io.specs.Counts.{Rose}
use Rattle.cert_make.specs.declared.fault.MakeFault.{MakeFault}

-- A fault of writing is one that the sink counted; where there was no memory it counted none.
abbrev pub MakeCauses : ℕ → ℕ → MakeFault → Type 0
MakeCauses before now MakeFault.WriteFault = Rose before now
MakeCauses before now MakeFault.NoMemory = now ≡ before
