-- What may be wrong with the value of a key.
use Rattle.std.specs.Prelude.{ℕ, List, codes}
use Rattle.sel_text.specs.declared.fault.TextFault.{TextFault}
use Rattle.spd_file.specs.declared.why.Why.{Why}

-- What is printed of it.
abbrev pub why_text : Why → List ℕ
why_text Why.NotHere = codes "not here"
why_text Why.Missing = codes "missing"
why_text Why.WrongKind = codes "wrong kind"
why_text Why.Empty = codes "empty"
why_text Why.NotInGrammar = codes "not in grammar"
why_text Why.OutOfRange = codes "out of range"
why_text Why.Reserved = codes "reserved"

-- What is wrong with a text that its grammar refuses.
abbrev pub why_of : TextFault → Why
why_of TextFault.NotInGrammar = Why.NotInGrammar
why_of TextFault.OutOfRange = Why.OutOfRange
