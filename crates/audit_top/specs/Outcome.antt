-- How a run ends.
use Rattle.std.specs.Prelude.{ℕ, Option, Some, None, Result, Ok, Err}
use Rattle.audit_frame.specs.declared.refusal.Refusal.{Refusal}
use Rattle.cmd_audit.specs.declared.command.AuditEnd.{AuditEnd}
use Rattle.cmd_check.specs.declared.command.CheckEnd.{CheckEnd}
use Rattle.cmd_judge.specs.declared.command.JudgeEnd.{JudgeEnd}
use Rattle.cmd_judge.specs.declared.command.TraceFault.{TraceFault as JudgeFault}
use Rattle.cmd_narrow.specs.declared.command.NarrowEnd.{NarrowEnd}
use Rattle.cmd_replay.specs.declared.command.ReplayEnd.{ReplayEnd}
use Rattle.cmd_replay.specs.declared.fault.TraceFault.{TraceFault as ReplayFault}
use Rattle.spd_lanes.specs.Machine.{Machine}
use Rattle.audit_top.specs.declared.outcome.Outcome.{Outcome}
use Rattle.audit_top.specs.declared.trace_fault.TraceFault.{TraceFault}

-- The outcome of a refusal that any command may have.
abbrev pub refused : Refusal → Outcome
refused (Refusal.PolicyFault word fault) = Outcome.PolicyFault word fault
refused (Refusal.TooLong word) = Outcome.TooLong word
refused (Refusal.EntryLimit word direction line at) = Outcome.EntryLimit word direction line at
refused (Refusal.ReadFault word) = Outcome.ReadFault word
refused Refusal.WriteFault = Outcome.WriteFault
refused Refusal.NoMemory = Outcome.NoMemory

-- The other way round: such a refusal, or an end that is some command's own.
abbrev pub ended_by : Outcome → Result Outcome Refusal
ended_by (Outcome.PolicyFault word fault) = Err (Refusal.PolicyFault word fault)
ended_by (Outcome.TooLong word) = Err (Refusal.TooLong word)
ended_by (Outcome.EntryLimit word direction line at) = Err (Refusal.EntryLimit word direction line at)
ended_by (Outcome.ReadFault word) = Err (Refusal.ReadFault word)
ended_by Outcome.WriteFault = Err Refusal.WriteFault
ended_by Outcome.NoMemory = Err Refusal.NoMemory
ended_by outcome = Ok outcome

-- A trace line's fault that `judge` found, and one that `replay` found.
abbrev pub judge_fault : JudgeFault → TraceFault
judge_fault (JudgeFault.Text fault) = TraceFault.Text fault
judge_fault JudgeFault.OnlyPackets = TraceFault.OnlyPackets

abbrev pub replay_fault : ReplayFault → TraceFault
replay_fault (ReplayFault.Text fault) = TraceFault.Text fault
replay_fault (ReplayFault.Table fault) = TraceFault.Table fault
replay_fault (ReplayFault.Lane fault) = TraceFault.Lane fault
replay_fault (ReplayFault.Edit fault) = TraceFault.Edit fault

-- The outcome of an end of `judge`.
abbrev pub judged : JudgeEnd → Outcome
judged JudgeEnd.Done = Outcome.Done
judged (JudgeEnd.TraceFault line fault) = Outcome.TraceFault line (judge_fault fault)

-- The outcome of an end of `replay`, and the machine that it leaves.
abbrev pub replayed : ReplayEnd → Outcome
replayed (ReplayEnd.Done m) = Outcome.Done
replayed (ReplayEnd.TraceFault line fault) = Outcome.TraceFault line (replay_fault fault)

abbrev pub left_by : ReplayEnd → Option Machine
left_by (ReplayEnd.Done m) = Some m
left_by (ReplayEnd.TraceFault line fault) = None

-- The outcome of an end of `narrow`, of one of `audit`, and of one of `check`.
abbrev pub narrowed : NarrowEnd → Outcome
narrowed NarrowEnd.Done = Outcome.Done
narrowed NarrowEnd.Unacceptable = Outcome.Unacceptable
narrowed (NarrowEnd.ProposalFault fault) = Outcome.ProposalFault fault

abbrev pub audited : AuditEnd → Outcome
audited AuditEnd.Agree = Outcome.Done
audited AuditEnd.Differ = Outcome.Differ

abbrev pub certified : CheckEnd → Outcome
certified CheckEnd.Accepted = Outcome.Done
certified (CheckEnd.Rejected node) = Outcome.Rejected node
certified (CheckEnd.CertFault line) = Outcome.CertFault line

-- The exit status of each outcome.
abbrev pub status_of : Outcome → ℕ
status_of Outcome.Done = 0
status_of Outcome.Differ = 1
status_of Outcome.Unacceptable = 1
status_of (Outcome.Rejected node) = 1
status_of Outcome.Usage = 2
status_of (Outcome.PolicyFault word fault) = 3
status_of (Outcome.TraceFault line fault) = 4
status_of (Outcome.ProposalFault fault) = 4
status_of (Outcome.CertFault line) = 4
status_of (Outcome.TooLong word) = 4
status_of (Outcome.EntryLimit word direction line at) = 5
status_of (Outcome.ReadFault word) = 6
status_of Outcome.WriteFault = 7
status_of Outcome.NoMemory = 8
