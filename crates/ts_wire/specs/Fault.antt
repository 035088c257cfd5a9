-- What is printed of the fault of a proposal.
use Rattle.std.specs.Prelude.{ℕ, List, ◌++◌, codes, decimal}
use Rattle.ts_payload.specs.Fault.{ts_fault_text}
use Rattle.ts_wire.specs.declared.fault.ProposalFault.{ProposalFault}
use Rattle.ts_wire.specs.declared.fault.ProposalFault.TheVariants.{Lines, Hex, Payload, NoMemory}

-- What is wrong with the line with this number.
abbrev pub line_text : ℕ → List ℕ → List ℕ
line_text line what = codes "line " ++ (decimal line ++ (codes ": " ++ what))

-- What is printed of a fault.
abbrev pub proposal_fault_text : ProposalFault → List ℕ
proposal_fault_text Lines = codes "not two lines"
proposal_fault_text (Hex line) = line_text line (codes "not hex")
proposal_fault_text (Payload line fault) = line_text line (ts_fault_text fault)
proposal_fault_text NoMemory = codes "out of memory"
