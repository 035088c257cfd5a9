-- What is printed of a policy's fault.
use Rattle.std.specs.Prelude.{ℕ, List, ◌++◌, codes, decimal}
use Rattle.spd_line.specs.Fault.{line_fault_text}
use Rattle.spd_file.specs.declared.fault.PolicyFault.{PolicyFault}
use Rattle.spd_file.specs.Key.{line_key_text, top_key_text}
use Rattle.spd_file.specs.Why.{why_text}

-- A fault of the line of that number.
abbrev pub numbered_fault_text : ℕ → List ℕ → List ℕ
numbered_fault_text index what = codes "line " ++ (decimal index ++ (codes " " ++ what))

abbrev pub policy_fault_text : PolicyFault → List ℕ
policy_fault_text PolicyFault.Syntax = codes "syntax"
policy_fault_text (PolicyFault.Top key why) = codes "top " ++ (top_key_text key ++ (codes " " ++ why_text why))
policy_fault_text PolicyFault.TooManyLines = codes "too many lines"
policy_fault_text (PolicyFault.Line index key why) = numbered_fault_text index (line_key_text key ++ (codes " " ++ why_text why))
policy_fault_text (PolicyFault.Rule index fault) = numbered_fault_text index (line_fault_text fault)
policy_fault_text (PolicyFault.DuplicateName index) = numbered_fault_text index (codes "duplicate name")
policy_fault_text PolicyFault.NoMemory = codes "out of memory"
