-- The stages of a run: A's policy is read and cut outbound, then B's is read and cut inbound, and then the answer is written.
use Rattle.std.proofs.Common.{◌≡◌, ℕ, ◌≤◌, List, length, Option, None, Some, Result, Ok, Err, refl, arith}
use Rattle.std.specs.Prelude.{Contains, IfSome}
use Rattle.pair_io.specs.Counts.{NoneFell}
use Rattle.sel_box.specs.declared.packet.Direction.TheVariants.{Outbound, Inbound}
use Rattle.spd_cut.specs.Steps.{first_over, steps}
use Rattle.spd_file.specs.Policy.{policy_meaning}
use Rattle.spd_line.specs.declared.line.LineParts.{LineParts}
use Rattle.audit_frame.specs.declared.refusal.Refusal.{Refusal}
use Rattle.audit_frame.specs.Answer.{most_policy, with_policy}
use Rattle.audit_frame.specs.Causes.{Reads}
use Rattle.audit_frame.specs.Loading.{LimitCauses, PolicyCauses, policy_file}
use Rattle.audit_frame.specs.Runs.{Runs}
use Rattle.audit_frame.proofs.Further.{Runs-over_before, Runs-within_before}
use Rattle.audit_frame.proofs.Runs.{Runs-over, Runs-policy, Runs-unread, Runs-within}
use Rattle.cmd_audit.specs.declared.command.Audit.{Audit}
use Rattle.cmd_audit.specs.declared.command.AuditEnd.{AuditEnd}
use Rattle.cmd_audit.specs.Audit.{audit_answer, audit_files, by_first, by_second, pair_answer}

-- Both files are ones that the run reads.
has_a : (command : Audit) → Contains (audit_files command) (policy_file command.policy_a)
has_a command = (0, omega arith, refl)

has_b : (command : Audit) → Contains (audit_files command) (policy_file command.policy_b)
has_b command = (1, omega arith, refl)

-- What is known where A's lines are read, in the words of a run.
module _ (command : Audit) (told : List ℕ → Option (List ℕ)) (a : List LineParts) (before between : Reads)
    (fits : IfSome (told command.policy_a.name) (λ c. length c ≤ most_policy))
    (same : IfSome (told command.policy_a.name) (λ c. policy_meaning c ≡ Ok a))
    (none_fell : NoneFell before.faults between.faults) (taken : before.taken ≤ between.taken) where
  -- What follows on the lines of A is what follows on its file.
  pub Runs-a : (now : Reads) (faults faults' : ℕ) (text text' : Option (List ℕ)) (ended : Result AuditEnd Refusal) →
      Runs (by_first told command a) (audit_files command) told between now faults faults' text text' ended →
      Runs (audit_answer told command) (audit_files command) told before now faults faults' text text' ended
  Runs-a now faults faults' text text' ended =
      Runs-policy a (by_first told command) (audit_files command) told command.policy_a before between now faults faults' text text' ended
      fits same none_fell taken

  -- A wasn't cut.
  pub Runs-uncut_a : (word : ℕ) (faults : ℕ) (text : Option (List ℕ)) (refusal : Refusal) → word ≡ command.policy_a.word →
      LimitCauses word Outbound (first_over command.limit (steps Outbound a)) refusal →
      Runs (audit_answer told command) (audit_files command) told before between faults faults text text (Err refusal)
  Runs-uncut_a word faults text refusal word_is cause =
      Runs-a between faults faults text text (Err refusal)
      (Runs-over_before (with_policy told command.policy_b (by_second command a)) (audit_files command) told command.policy_a.word command.limit
      Outbound a (policy_file command.policy_a) between between faults text refusal (has_a command) (record { named = refl; is_policy = refl })
      (rw word_is at cause))

  -- It was.
  module _ (cut : first_over command.limit (steps Outbound a) ≡ None) where
    pub Runs-cut_a : (now : Reads) (faults faults' : ℕ) (text text' : Option (List ℕ)) (ended : Result AuditEnd Refusal) →
        Runs (with_policy told command.policy_b (by_second command a)) (audit_files command) told between now faults faults' text text' ended →
        Runs (audit_answer told command) (audit_files command) told before now faults faults' text text' ended
    Runs-cut_a now faults faults' text text' ended runs =
        Runs-a now faults faults' text text' ended
        (Runs-within_before (with_policy told command.policy_b (by_second command a)) (audit_files command) told command.policy_a.word command.limit
        Outbound a between now faults faults' text text' ended cut runs)

    -- B's policy wasn't read.
    pub Runs-unread_b : (now : Reads) (faults : ℕ) (text : Option (List ℕ)) (refusal : Refusal) →
        PolicyCauses (policy_file command.policy_b) told between now refusal →
        Runs (audit_answer told command) (audit_files command) told before now faults faults text text (Err refusal)
    Runs-unread_b now faults text refusal cause =
        Runs-cut_a now faults faults text text (Err refusal)
        (Runs-unread (by_second command a) (audit_files command) told command.policy_b between now faults text refusal (has_b command) cause)

    -- It was, so what follows on the lines of B is what follows on its file.
    module _ (b : List LineParts) (now : Reads)
        (fits' : IfSome (told command.policy_b.name) (λ c. length c ≤ most_policy))
        (same' : IfSome (told command.policy_b.name) (λ c. policy_meaning c ≡ Ok b))
        (none_fell' : NoneFell between.faults now.faults) (taken' : between.taken ≤ now.taken) where
      Runs-b : (faults faults' : ℕ) (text text' : Option (List ℕ)) (ended : Result AuditEnd Refusal) →
          Runs (by_second command a b) (audit_files command) told now now faults faults' text text' ended →
          Runs (audit_answer told command) (audit_files command) told before now faults faults' text text' ended
      Runs-b faults faults' text text' ended runs =
          Runs-cut_a now faults faults' text text' ended
          (Runs-policy b (by_second command a) (audit_files command) told command.policy_b between now now faults faults' text text' ended
          fits' same' none_fell' taken' runs)

      pub Runs-uncut_b : (word : ℕ) (faults : ℕ) (text : Option (List ℕ)) (refusal : Refusal) → word ≡ command.policy_b.word →
          LimitCauses word Inbound (first_over command.limit (steps Inbound b)) refusal →
          Runs (audit_answer told command) (audit_files command) told before now faults faults text text (Err refusal)
      Runs-uncut_b word faults text refusal word_is cause =
          Runs-b faults faults text text (Err refusal)
          (Runs-over (pair_answer a b) (audit_files command) told command.policy_b.word command.limit Inbound b (policy_file command.policy_b)
          now now faults text refusal (has_b command) (record { named = refl; is_policy = refl }) (rw word_is at cause))

      pub Runs-cut_b : (faults faults' : ℕ) (text text' : Option (List ℕ)) (ended : Result AuditEnd Refusal) →
          first_over command.limit (steps Inbound b) ≡ None →
          Runs (Some (pair_answer a b)) (audit_files command) told now now faults faults' text text' ended →
          Runs (audit_answer told command) (audit_files command) told before now faults faults' text text' ended
      Runs-cut_b faults faults' text text' ended fits runs =
          Runs-b faults faults' text text' ended
          (Runs-within (pair_answer a b) (audit_files command) told command.policy_b.word command.limit Inbound b now now faults faults' text text'
          ended fits runs)
