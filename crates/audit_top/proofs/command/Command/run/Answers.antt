-- What the laws of `narrow`, `audit` and `check` say, of an end of their own.
use Rattle.std.proofs.Common.{◌≡◌, ℕ, List, Option, None, Some, IfSome, refl}
use Rattle.cmd_audit.specs.declared.command.AuditEnd.{AuditEnd}
use Rattle.cmd_audit.specs.Headline.{IsAgreement, IsDifference}
use Rattle.cmd_check.specs.Headline.{IsAgreed}
use Rattle.cmd_narrow.specs.declared.command.NarrowEnd.{NarrowEnd}
use Rattle.cmd_narrow.specs.Headline.{IsNarrowed, IsNoProposal, IsUnacceptable}
use Rattle.audit_top.proofs.command.Command.run.Goals as goal

-- what holds of two contents, where both are told
of_both : (P : List ℕ → List ℕ → Type 0) (a b : Option (List ℕ)) → ((x y : List ℕ) → a ≡ Some x → b ≡ Some y → P x y) →
    IfSome a (λ x. IfSome b (λ y. P x y))
of_both P None b law = tt
of_both P (Some x) None law = tt
of_both P (Some x) (Some y) law = law x y refl refl

-- and where a third one is told too
of_three : (P : List ℕ → List ℕ → List ℕ → Type 0) (a b c : Option (List ℕ)) →
    ((x y z : List ℕ) → a ≡ Some x → b ≡ Some y → c ≡ Some z → P x y z) → IfSome a (λ x. IfSome b (λ y. IfSome c (λ z. P x y z)))
of_three P None b c law = tt
of_three P (Some x) None c law = tt
of_three P (Some x) (Some y) None law = tt
of_three P (Some x) (Some y) (Some z) law = law x y z refl refl refl

pub returns-in-Ok-Done-clause-means : goal.returns-in-Ok-Done-clause-means
returns-in-Ok-Done-clause-means g c =
    let told = g.F.Files.told c.args.files.now in
    let before = g.O.Sink.told c.args.out.now in
    let now = g.O.Sink.told c.run-in-Narrow.new.out in
    let narrow = c.in-Narrow.narrow in
    let ends = rw (c.in-Ok-Done.is, c.in-Ok-Done.field-0-is) at c.run-in-Narrow.ensures.ends in
    rw c.in-Narrow.is
    (of_both (λ policy proposal. IsNarrowed policy proposal before now) (told narrow.policy.name) (told narrow.proposal.name)
    (λ policy proposal p_is q_is. c.the_proposal_is_answered.ensures told narrow policy proposal before now NarrowEnd.Done p_is q_is ends))

pub returns-in-Ok-Unacceptable-clause-means : goal.returns-in-Ok-Unacceptable-clause-means
returns-in-Ok-Unacceptable-clause-means g c =
    let told = g.F.Files.told c.args.files.now in
    let before = g.O.Sink.told c.args.out.now in
    let now = g.O.Sink.told c.run-in-Narrow.new.out in
    let narrow = c.in-Narrow.narrow in
    let ends = rw (c.in-Ok-Unacceptable.is, c.in-Ok-Unacceptable.field-0-is) at c.run-in-Narrow.ensures.ends in
    rw c.in-Narrow.is
    (of_both (λ policy proposal. IsUnacceptable policy proposal before now) (told narrow.policy.name) (told narrow.proposal.name)
    (λ policy proposal p_is q_is. c.the_proposal_is_answered.ensures told narrow policy proposal before now NarrowEnd.Unacceptable p_is q_is ends))

pub returns-in-Ok-ProposalFault-clause-means : goal.returns-in-Ok-ProposalFault-clause-means
returns-in-Ok-ProposalFault-clause-means g c =
    let told = g.F.Files.told c.args.files.now in
    let before = g.O.Sink.told c.args.out.now in
    let now = g.O.Sink.told c.run-in-Narrow.new.out in
    let narrow = c.in-Narrow.narrow in
    let ends = rw (c.in-Ok-ProposalFault.is, c.in-Ok-ProposalFault.field-0-is) at c.run-in-Narrow.ensures.ends in
    rw c.in-Narrow.is
    (of_both (λ policy proposal. IsNoProposal policy proposal c.in-Ok-ProposalFault.fault before now) (told narrow.policy.name) (told narrow.proposal.name)
    (λ policy proposal p_is q_is. c.the_proposal_is_answered.ensures told narrow policy proposal before now (NarrowEnd.ProposalFault c.in-Ok-ProposalFault.fault) p_is q_is ends))

pub returns-in-Ok-Agree-clause-means : goal.returns-in-Ok-Agree-clause-means
returns-in-Ok-Agree-clause-means g c =
    let told = g.F.Files.told c.args.files.now in
    let before = g.O.Sink.told c.args.out.now in
    let now = g.O.Sink.told c.run-in-Audit.new.out in
    let audit = c.in-Audit.audit in
    let ends = rw (c.in-Ok-Agree.is, c.in-Ok-Agree.field-0-is) at c.run-in-Audit.ensures.ends in
    rw c.in-Audit.is
    (of_both (λ a b. IsAgreement a b before now) (told audit.policy_a.name) (told audit.policy_b.name)
    (λ a b a_is b_is. c.the_least_gap_is_written.ensures told audit a b before now AuditEnd.Agree a_is b_is ends))

pub returns-in-Ok-Differ-clause-means : goal.returns-in-Ok-Differ-clause-means
returns-in-Ok-Differ-clause-means g c =
    let told = g.F.Files.told c.args.files.now in
    let before = g.O.Sink.told c.args.out.now in
    let now = g.O.Sink.told c.run-in-Audit.new.out in
    let audit = c.in-Audit.audit in
    let ends = rw (c.in-Ok-Differ.is, c.in-Ok-Differ.field-0-is) at c.run-in-Audit.ensures.ends in
    rw c.in-Audit.is
    (of_both (λ a b. IsDifference a b before now) (told audit.policy_a.name) (told audit.policy_b.name)
    (λ a b a_is b_is. c.the_least_gap_is_written.ensures told audit a b before now AuditEnd.Differ a_is b_is ends))

pub returns-in-Ok-Accepted-clause-means : goal.returns-in-Ok-Accepted-clause-means
returns-in-Ok-Accepted-clause-means g c =
    let told = g.F.Files.told c.args.files.now in
    let before = g.O.Sink.told c.args.out.now in
    let now = g.O.Sink.told c.run-in-Check.new.out in
    let check = c.in-Check.check in
    let ends = rw (c.in-Ok-Accepted.is, c.in-Ok-Accepted.field-0-is) at c.run-in-Check.ensures.ends in
    rw c.in-Check.is
    (of_three (λ a b certificate. IsAgreed a b before now) (told check.policy_a.name) (told check.policy_b.name) (told check.certificate.name)
    (λ a b certificate a_is b_is is. c.accepted_policies_agree.ensures told check a b certificate before now a_is b_is is ends))
