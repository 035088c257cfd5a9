-- Why a policy isn't cut.
use Rattle.std.specs.Prelude.{◌≡◌, ℕ, List, ◌++◌, codes, decimal, Option, Some}
use Rattle.spd_cut.specs.declared.fault.CutFault.{CutFault}

-- The line at which the limit is passed.
abbrev pub limit_line_text : ℕ → List ℕ
limit_line_text line = codes "line " ++ decimal line

-- What is printed of a fault.
abbrev pub cut_fault_text : CutFault → List ℕ
cut_fault_text (CutFault.Limit line) = codes "entry limit: " ++ limit_line_text line
cut_fault_text CutFault.NoMemory = codes "out of memory"

-- The fault of a cutting: the limit names the line of the first step that passes it. There may always be no memory.
abbrev pub IsCutFault : Option ℕ → CutFault → Type 0
IsCutFault over (CutFault.Limit line) = over ≡ Some line
IsCutFault over CutFault.NoMemory = Unit {0}
