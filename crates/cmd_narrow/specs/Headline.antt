-- What `narrow` writes, said of packets, without a box or an entry (RFC 7296 section 2.9).
use Rattle.std.specs.Prelude.{◌≡◌, ℕ, Bool, codes, List, Option, Ok, Err}
use Rattle.pair_io.specs.Gains.{Gains}
use Rattle.spd_file.specs.Policy.{policy_meaning}
use Rattle.spd_line.specs.declared.line.LineParts.{LineParts}
use Rattle.spd_line.specs.First.{name_at}
use Rattle.ts_narrow.specs.declared.narrowed.Narrowed.{Narrowed}
use Rattle.ts_narrow.specs.Answered.{IsRightAnswer, SomeAcceptable}
use Rattle.ts_payload.specs.declared.selector.Ts.{Ts}
use Rattle.ts_wire.specs.declared.fault.ProposalFault.{ProposalFault}
use Rattle.ts_wire.specs.declared.proposal.Proposal.{Proposal}
use Rattle.ts_wire.specs.Proposal.{proposal_of}
use Rattle.audit_frame.specs.Answer.{text_of}
use Rattle.cmd_narrow.specs.declared.command.NarrowEnd.{NarrowEnd}
use Rattle.cmd_narrow.specs.Narrow.{pair_lines}

-- The contents are a policy and a proposal, and the text gained the lines of two lists of selectors with the name of a
-- policy line, which are a right answer: they cover a packet; they cover only what the proposal covers and that line
-- protects in both directions; they are the whole proposal where one line protects all of it; they keep its first two
-- selectors where one line protects those; and the notice of more is there exactly where something is left.
pub record IsNarrowed (policy proposal : List ℕ) (before now : Option (List ℕ)) : Type 0 where
  pub lines : List LineParts
  pub offered : Proposal
  pub policy_is : policy_meaning policy ≡ Ok lines
  pub proposal_is : proposal_of proposal ≡ Ok offered
  pub tsi : List Ts
  pub tsr : List Ts
  pub link : ℕ
  pub additional : Bool
  pub right : IsRightAnswer lines offered.tsi offered.tsr (Narrowed.Pair tsi tsr link additional)
  pub written : Gains before now (text_of (pair_lines (name_at lines link) tsi tsr additional))

-- The contents are a policy and a proposal, no line of the policy protects in both directions a packet that the proposal
-- covers and whose protocol a selector can name, and the text gained that nothing is acceptable.
pub record IsUnacceptable (policy proposal : List ℕ) (before now : Option (List ℕ)) : Type 0 where
  pub lines : List LineParts
  pub offered : Proposal
  pub policy_is : policy_meaning policy ≡ Ok lines
  pub proposal_is : proposal_of proposal ≡ Ok offered
  pub none : SomeAcceptable lines offered.tsi offered.tsr → ⊥
  pub written : Gains before now (codes "unacceptable 38\n")

-- The first content is a policy, the second has this fault as its first, and the text stayed.
pub record IsNoProposal (policy proposal : List ℕ) (fault : ProposalFault) (before now : Option (List ℕ)) : Type 0 where
  pub lines : List LineParts
  pub policy_is : policy_meaning policy ≡ Ok lines
  pub faulty : proposal_of proposal ≡ Err fault
  pub same : now ≡ before

-- What is so at an end of the command's own.
abbrev pub IsAnswered : List ℕ → List ℕ → Option (List ℕ) → Option (List ℕ) → NarrowEnd → Type 0
IsAnswered policy proposal before now NarrowEnd.Done = IsNarrowed policy proposal before now
IsAnswered policy proposal before now NarrowEnd.Unacceptable = IsUnacceptable policy proposal before now
IsAnswered policy proposal before now (NarrowEnd.ProposalFault fault) = IsNoProposal policy proposal fault before now
