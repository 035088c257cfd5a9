-- The stages of a run: the policy is read, and cut outbound and then inbound; the proposal is loaded; and the answer is written.
use Rattle.std.proofs.Common.{◌≡◌, ℕ, ◌≤◌, List, length, Option, None, Some, Result, Ok, Err, refl, arith}
use Rattle.std.specs.Prelude.{Contains, IfSome}
use Rattle.pair_io.specs.Counts.{NoneFell}
use Rattle.sel_box.specs.declared.packet.Direction.TheVariants.{Outbound, Inbound}
use Rattle.spd_cut.specs.Steps.{first_over, steps}
use Rattle.spd_file.specs.Policy.{policy_meaning}
use Rattle.spd_line.specs.declared.line.LineParts.{LineParts}
use Rattle.audit_frame.specs.declared.refusal.Refusal.{Refusal}
use Rattle.audit_frame.specs.Answer.{most_policy}
use Rattle.audit_frame.specs.Causes.{Reads}
use Rattle.audit_frame.specs.Loading.{LimitCauses, LoadCauses, plain_file, policy_file}
use Rattle.audit_frame.specs.Runs.{Runs}
use Rattle.audit_frame.proofs.Further.{Runs-over_before, Runs-within_before}
use Rattle.audit_frame.proofs.Runs.{Runs-file, Runs-policy, Runs-unloaded}
use Rattle.cmd_narrow.specs.declared.command.Narrow.{Narrow}
use Rattle.cmd_narrow.specs.declared.command.NarrowEnd.{NarrowEnd}
use Rattle.cmd_narrow.specs.Narrow.{by_file, by_inbound, by_outbound, by_text, most_proposal, narrow_answer, narrow_files, proposal_answer}

-- Both files are ones that the run reads.
has_policy : (command : Narrow) → Contains (narrow_files command) (policy_file command.policy)
has_policy command = (0, omega arith, refl)

has_proposal : (command : Narrow) → Contains (narrow_files command) (plain_file command.proposal most_proposal)
has_proposal command = (1, omega arith, refl)

-- What is known where the policy's lines are read, in the words of a run.
module _ (command : Narrow) (told : List ℕ → Option (List ℕ)) (lines : List LineParts) (before between : Reads)
    (fits : IfSome (told command.policy.name) (λ c. length c ≤ most_policy))
    (same : IfSome (told command.policy.name) (λ c. policy_meaning c ≡ Ok lines))
    (none_fell : NoneFell before.faults between.faults) (taken : before.taken ≤ between.taken) where
  -- What follows on its lines is what follows on its file.
  Runs-lines : (now : Reads) (faults faults' : ℕ) (text text' : Option (List ℕ)) (ended : Result NarrowEnd Refusal) →
      Runs (by_outbound told command lines) (narrow_files command) told between now faults faults' text text' ended →
      Runs (narrow_answer told command) (narrow_files command) told before now faults faults' text text' ended
  Runs-lines now faults faults' text text' ended =
      Runs-policy lines (by_outbound told command) (narrow_files command) told command.policy before between now faults faults' text text'
      ended fits same none_fell taken

  -- It wasn't cut outbound.
  pub Runs-uncut_out : (word : ℕ) (faults : ℕ) (text : Option (List ℕ)) (refusal : Refusal) → word ≡ command.policy.word →
      LimitCauses word Outbound (first_over command.limit (steps Outbound lines)) refusal →
      Runs (narrow_answer told command) (narrow_files command) told before between faults faults text text (Err refusal)
  Runs-uncut_out word faults text refusal word_is cause =
      Runs-lines between faults faults text text (Err refusal)
      (Runs-over_before (by_inbound told command lines) (narrow_files command) told command.policy.word command.limit Outbound lines
      (policy_file command.policy) between between faults text refusal (has_policy command) (record { named = refl; is_policy = refl })
      (rw word_is at cause))

  -- It was.
  module _ (cut_out : first_over command.limit (steps Outbound lines) ≡ None) where
    Runs-cut_out : (now : Reads) (faults faults' : ℕ) (text text' : Option (List ℕ)) (ended : Result NarrowEnd Refusal) →
        Runs (by_inbound told command lines) (narrow_files command) told between now faults faults' text text' ended →
        Runs (narrow_answer told command) (narrow_files command) told before now faults faults' text text' ended
    Runs-cut_out now faults faults' text text' ended runs =
        Runs-lines now faults faults' text text' ended
        (Runs-within_before (by_inbound told command lines) (narrow_files command) told command.policy.word command.limit Outbound lines
        between now faults faults' text text' ended cut_out runs)

    -- It wasn't cut inbound.
    pub Runs-uncut_in : (word : ℕ) (faults : ℕ) (text : Option (List ℕ)) (refusal : Refusal) → word ≡ command.policy.word →
        LimitCauses word Inbound (first_over command.limit (steps Inbound lines)) refusal →
        Runs (narrow_answer told command) (narrow_files command) told before between faults faults text text (Err refusal)
    Runs-uncut_in word faults text refusal word_is cause =
        Runs-cut_out between faults faults text text (Err refusal)
        (Runs-over_before (by_file told command lines) (narrow_files command) told command.policy.word command.limit Inbound lines
        (policy_file command.policy) between between faults text refusal (has_policy command) (record { named = refl; is_policy = refl })
        (rw word_is at cause))

    -- It was.
    module _ (cut_in : first_over command.limit (steps Inbound lines) ≡ None) where
      Runs-cut : (now : Reads) (faults faults' : ℕ) (text text' : Option (List ℕ)) (ended : Result NarrowEnd Refusal) →
          Runs (by_file told command lines) (narrow_files command) told between now faults faults' text text' ended →
          Runs (narrow_answer told command) (narrow_files command) told before now faults faults' text text' ended
      Runs-cut now faults faults' text text' ended runs =
          Runs-cut_out now faults faults' text text' ended
          (Runs-within_before (by_file told command lines) (narrow_files command) told command.policy.word command.limit Inbound lines
          between now faults faults' text text' ended cut_in runs)

      -- The proposal wasn't loaded.
      pub Runs-no_text : (now : Reads) (faults : ℕ) (text : Option (List ℕ)) (refusal : Refusal) →
          LoadCauses (plain_file command.proposal most_proposal) told between now refusal →
          Runs (narrow_answer told command) (narrow_files command) told before now faults faults text text (Err refusal)
      Runs-no_text now faults text refusal cause =
          Runs-cut now faults faults text text (Err refusal)
          (Runs-unloaded (by_text lines) (narrow_files command) told command.proposal most_proposal between now faults text refusal
          (has_proposal command) cause)

      -- It was, so what follows on its text is what follows on its file.
      pub Runs-text : (content : List ℕ) (now : Reads) (faults faults' : ℕ) (text text' : Option (List ℕ))
          (ended : Result NarrowEnd Refusal) → IfSome (told command.proposal.name) (λ c. content ≡ c) → length content ≤ most_proposal →
          NoneFell between.faults now.faults → between.taken ≤ now.taken →
          Runs (Some (proposal_answer lines content)) (narrow_files command) told now now faults faults' text text' ended →
          Runs (narrow_answer told command) (narrow_files command) told before now faults faults' text text' ended
      Runs-text content now faults faults' text text' ended is within none_fell' taken' runs =
          Runs-cut now faults faults' text text' ended
          (Runs-file content (by_text lines) (narrow_files command) told command.proposal most_proposal between now now faults faults' text
          text' ended is within none_fell' taken' runs)
