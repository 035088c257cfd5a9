-- The line that tells a refusal.
use Rattle.std.specs.Prelude.{ℕ, List, ◌++◌, Option, Some, None, codes, decimal}
use Rattle.sel_box.specs.declared.packet.Direction.{Direction}
use Rattle.spd_file.specs.declared.fault.PolicyFault.{PolicyFault}
use Rattle.spd_file.specs.Fault.{policy_fault_text}
use Rattle.spd_text.specs.DirectionText.{direction_text}
use Rattle.spd_lanes.specs.Faults.{lane_fault_text}
use Rattle.spd_order.specs.Fault.{order_fault_text}
use Rattle.trace_text.specs.Fault.{event_fault_text}
use Rattle.ts_wire.specs.declared.fault.ProposalFault.{ProposalFault}
use Rattle.ts_wire.specs.Fault.{proposal_fault_text}
use Rattle.audit_top.specs.declared.outcome.Outcome.{Outcome}
use Rattle.audit_top.specs.declared.trace_fault.TraceFault.{TraceFault}

-- A refusal of the file that a word names.
abbrev pub word_line : ℕ → List ℕ → List ℕ
word_line word cause = codes "error: word " ++ (decimal word ++ cause)

-- A refusal of a policy file.
abbrev pub policy_line : ℕ → PolicyFault → List ℕ
policy_line word fault = word_line word (codes ": policy: " ++ (policy_fault_text fault ++ codes "\n"))

-- What is printed of a trace line's fault.
abbrev pub trace_fault_text : TraceFault → List ℕ
trace_fault_text (TraceFault.Text fault) = event_fault_text fault
trace_fault_text TraceFault.OnlyPackets = codes "only packets"
trace_fault_text (TraceFault.Table fault) = codes "table: " ++ policy_fault_text fault
trace_fault_text (TraceFault.Lane fault) = lane_fault_text fault
trace_fault_text (TraceFault.Edit fault) = order_fault_text fault

-- A refusal of a trace line.
abbrev pub trace_line : ℕ → TraceFault → List ℕ
trace_line line fault =
    codes "error: trace line " ++ (decimal line ++ (codes ": " ++ (trace_fault_text fault ++ codes "\n")))

-- A text that is no proposal.
abbrev pub proposal_line : ProposalFault → List ℕ
proposal_line fault = codes "error: proposal: " ++ (proposal_fault_text fault ++ codes "\n")

-- A text that is no certificate.
abbrev pub certificate_line : ℕ → List ℕ
certificate_line line = codes "error: certificate line " ++ (decimal line ++ codes "\n")

-- The end of the line of a limit that is passed: the trace line of the edit, where there is one.
abbrev pub limit_end : Option ℕ → List ℕ
limit_end None = codes "\n"
limit_end (Some line) = codes " at trace line " ++ (decimal line ++ codes "\n")

-- A limit that is passed: the direction, and the policy line.
abbrev pub limit_line : ℕ → Direction → ℕ → Option ℕ → List ℕ
limit_line word direction line at =
    word_line word (codes ": entry limit: " ++ (direction_text direction ++ (codes " line " ++ (decimal line ++ limit_end at))))

-- The line of an outcome, with its end; none where the run came to an answer.
abbrev pub error_line : Outcome → Option (List ℕ)
error_line Outcome.Done = None
error_line Outcome.Differ = None
error_line Outcome.Unacceptable = None
error_line (Outcome.Rejected node) = None
error_line Outcome.Usage = Some (codes "error: usage\n")
error_line (Outcome.PolicyFault word fault) = Some (policy_line word fault)
error_line (Outcome.TraceFault line fault) = Some (trace_line line fault)
error_line (Outcome.ProposalFault fault) = Some (proposal_line fault)
error_line (Outcome.CertFault line) = Some (certificate_line line)
error_line (Outcome.TooLong word) = Some (word_line word (codes ": too long\n"))
error_line (Outcome.EntryLimit word direction line at) = Some (limit_line word direction line at)
error_line (Outcome.ReadFault word) = Some (word_line word (codes ": cannot read\n"))
error_line Outcome.WriteFault = Some (codes "error: cannot write\n")
error_line Outcome.NoMemory = Some (codes "error: out of memory\n")
