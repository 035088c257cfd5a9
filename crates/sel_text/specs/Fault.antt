-- How a text that stands for nothing is told from one that passes a bound.
use Rattle.std.specs.Prelude.{ℕ, Bool, List, codes, Option, Some, None, Result, Ok, Err, if◌then◌else◌}
use Rattle.sel_text.specs.declared.fault.TextFault.{TextFault}
use Rattle.sel_text.specs.declared.fault.TextFault.TheVariants.{NotInGrammar, OutOfRange}

-- What a text means, from what it writes with numbers of any size: nothing written is not in the
-- grammar, and what does not fit its bounds is out of range.
abbrev pub bounded : {W V : Type 0} → (W → Bool) → (W → V) → Option W → Result V TextFault
bounded fits value None = Err NotInGrammar
bounded fits value (Some written) = if fits written then Ok (value written) else Err OutOfRange

-- what a fault prints
abbrev pub fault_text : TextFault → Option (List ℕ)
fault_text NotInGrammar = Some (codes "not in grammar")
fault_text OutOfRange = Some (codes "out of range")
