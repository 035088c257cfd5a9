-- A run that ended by the command's own answer wrote a right answer to the proposal, or that nothing is acceptable, or has a fault.
use Rattle.std.proofs.Common.{◌≡◌, ℕ, List, [], Option, Some, None, Result, Ok, Err, refl, ap, subst, ◌∙◌}
use Rattle.std.proofs.lemmas.List.{append-nil}
use Rattle.pair_io.specs.Gains.{Gains}
use Rattle.sel_box.specs.declared.packet.Direction.{Direction}
use Rattle.sel_box.specs.declared.packet.Direction.TheVariants.{Outbound, Inbound}
use Rattle.spd_cut.specs.declared.entry.Entry.{Entry}
use Rattle.spd_cut.specs.Entries.{entries}
use Rattle.spd_cut.specs.StandsFor.{StandsFor}
use Rattle.spd_file.specs.Policy.{policy_meaning}
use Rattle.spd_line.specs.declared.line.LineParts.{LineParts}
use Rattle.ts_narrow.specs.declared.narrowed.Narrowed.{Narrowed}
use Rattle.ts_narrow.specs.declared.narrowed.Narrowed.TheVariants.{Pair, Unacceptable}
use Rattle.ts_narrow.specs.Allowed.{StandForBoth}
use Rattle.ts_narrow.specs.Answered.{IsRightAnswer}
use Rattle.ts_narrow.specs.Narrowing.{narrowing}
use Rattle.ts_payload.specs.declared.selector.Ts.{Ts}
use Rattle.ts_payload.specs.Selector.{AreSelectors}
use Rattle.ts_wire.specs.declared.fault.ProposalFault.{ProposalFault}
use Rattle.ts_wire.specs.declared.proposal.Proposal.{Proposal}
use Rattle.ts_wire.specs.Proposal.{proposal_of}
use Rattle.audit_frame.specs.Ends.{Ends, IsAnswer}
use Rattle.audit_frame.proofs.Done.{Ends-content, Ends-lines}
use Rattle.audit_frame.proofs.Further.{Ends-under_before}
use Rattle.cmd_narrow.specs.declared.command.Narrow.{Narrow}
use Rattle.cmd_narrow.specs.declared.command.NarrowEnd.{NarrowEnd}
use Rattle.cmd_narrow.specs.Headline.{IsAnswered, IsNoProposal}
use Rattle.cmd_narrow.specs.Narrow.{by_file, by_inbound, by_narrowed, by_outbound, by_proposal, by_text, most_proposal, narrow_answer}

-- What the laws of entries, of proposals and of narrowing give.
pub record AnswerLaws : Type 0 where
  pub stands : (d : Direction) (lines : List LineParts) → StandsFor (entries d lines) d lines
  pub selectors : (bytes : List ℕ) (proposal : Proposal) → proposal_of bytes ≡ Ok proposal →
      AreSelectors proposal.tsi × AreSelectors proposal.tsr
  pub right : (lines : List LineParts) (outbound inbound : List Entry) (tsi tsr : List Ts) → StandForBoth lines outbound inbound →
      AreSelectors tsi → AreSelectors tsr → IsRightAnswer lines tsi tsr (narrowing outbound inbound tsi tsr)

-- A text that gained nothing stayed.
Gains-none : (before now : Option (List ℕ)) → Gains before now [] → now ≡ before
Gains-none None now gained = gained
Gains-none (Some text) now gained = gained ∙ ap Some (append-nil text)

module _ (policy proposal : List ℕ) (lines : List LineParts) (policy_is : policy_meaning policy ≡ Ok lines) (before now : Option (List ℕ)) where
  narrowed-means : (offered : Proposal) → proposal_of proposal ≡ Ok offered → (answer : Narrowed) →
      IsRightAnswer lines offered.tsi offered.tsr answer → (end : NarrowEnd) → IsAnswer (by_narrowed lines answer) before now (Ok end) →
      IsAnswered policy proposal before now end
  narrowed-means offered offered_is Unacceptable right NarrowEnd.Unacceptable is = record {
    lines = lines;
    offered = offered;
    policy_is = policy_is;
    proposal_is = offered_is;
    none = right.refuses.0 refl;
    written = is.all_lines;
  }
  narrowed-means offered offered_is Unacceptable right NarrowEnd.Done is = absurd (let no_way : ⊥ = cc (is.ended_is) in no_way)
  narrowed-means offered offered_is Unacceptable right (NarrowEnd.ProposalFault fault) is =
      absurd (let no_way : ⊥ = cc (is.ended_is) in no_way)
  narrowed-means offered offered_is (Pair tsi tsr link additional) right NarrowEnd.Done is = record {
    lines = lines;
    offered = offered;
    policy_is = policy_is;
    proposal_is = offered_is;
    tsi = tsi;
    tsr = tsr;
    link = link;
    additional = additional;
    right = right;
    written = is.all_lines;
  }
  narrowed-means offered offered_is (Pair tsi tsr link additional) right NarrowEnd.Unacceptable is =
      absurd (let no_way : ⊥ = cc (is.ended_is) in no_way)
  narrowed-means offered offered_is (Pair tsi tsr link additional) right (NarrowEnd.ProposalFault fault) is =
      absurd (let no_way : ⊥ = cc (is.ended_is) in no_way)

  fault-means : (fault : ProposalFault) → proposal_of proposal ≡ Err fault → (end : NarrowEnd) →
      IsAnswer (by_proposal lines (Err fault)) before now (Ok end) → IsAnswered policy proposal before now end
  fault-means fault fault_is NarrowEnd.Done is = absurd (let no_way : ⊥ = cc (is.ended_is) in no_way)
  fault-means fault fault_is NarrowEnd.Unacceptable is = absurd (let no_way : ⊥ = cc (is.ended_is) in no_way)
  fault-means fault fault_is (NarrowEnd.ProposalFault other) is =
      let same : fault ≡ other = cc (is.ended_is) in
      subst (λ (f : ProposalFault). IsNoProposal policy proposal f before now) same
      (record { lines = lines; policy_is = policy_is; faulty = fault_is; same = Gains-none before now is.all_lines })

  proposal-means : ((offered : Proposal) → proposal_of proposal ≡ Ok offered →
      IsRightAnswer lines offered.tsi offered.tsr (narrowing (entries Outbound lines) (entries Inbound lines) offered.tsi offered.tsr)) →
      (read : Result Proposal ProposalFault) → proposal_of proposal ≡ read → (end : NarrowEnd) →
      IsAnswer (by_proposal lines read) before now (Ok end) → IsAnswered policy proposal before now end
  proposal-means right (Ok offered) e end is =
      narrowed-means offered e (narrowing (entries Outbound lines) (entries Inbound lines) offered.tsi offered.tsr) (right offered e) end is
  proposal-means right (Err fault) e end is = fault-means fault e end is

pub answered : AnswerLaws → (told : List ℕ → Option (List ℕ)) (command : Narrow) (policy proposal : List ℕ)
    (before now : Option (List ℕ)) (end : NarrowEnd) → told command.policy.name ≡ Some policy → told command.proposal.name ≡ Some proposal →
    Ends (narrow_answer told command) before now (Ok end) → IsAnswered policy proposal before now end
answered laws told command policy proposal before now end tells_policy tells_proposal ends =
    let read = Ends-lines told command.policy policy (by_outbound told command) before now end tells_policy ends in
    let lines = read.lines in
    let out = Ends-under_before command.policy.word command.limit Outbound lines (by_inbound told command lines) before now end read.ends in
    let both = Ends-under_before command.policy.word command.limit Inbound lines (by_file told command lines) before now end out in
    let done = Ends-content told command.proposal most_proposal proposal (by_text lines) before now end tells_proposal both in
    proposal-means policy proposal lines read.policy before now
    (λ offered e.
    let selectors = laws.selectors proposal offered e in
    laws.right lines (entries Outbound lines) (entries Inbound lines) offered.tsi offered.tsr
    (record { outbound_stands = laws.stands Outbound lines; inbound_stands = laws.stands Inbound lines }) selectors.0 selectors.1)
    (proposal_of proposal) refl end done
