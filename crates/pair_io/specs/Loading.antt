-- Why a file was not loaded: what is printed of it, and facts for one cause.
use Rattle.std.specs.Prelude.{ℕ, List, codes, Result, Err}
use Rattle.pair_io.specs.declared.loading.LoadFault.{LoadFault}
use Rattle.pair_io.specs.declared.loading.LoadFault.TheVariants.{ReadFault, TooLong, NoMemory}

-- what is printed of a fault
abbrev pub load_fault_text : LoadFault → List ℕ
load_fault_text ReadFault = codes "cannot read"
load_fault_text TooLong = codes "too long"
load_fault_text NoMemory = codes "out of memory"

-- P holds where a read failed
abbrev pub OnReadFault : Result (List ℕ) LoadFault → Type 0 → Type 0
OnReadFault (Err ReadFault) P = P
OnReadFault _ P = Unit {0}

-- P holds where there were too many bytes
abbrev pub OnTooLong : Result (List ℕ) LoadFault → Type 0 → Type 0
OnTooLong (Err TooLong) P = P
OnTooLong _ P = Unit {0}
