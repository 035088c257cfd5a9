-- The stages of a run: its only file is read, then both directions are cut, and then the views are written.
use Rattle.std.proofs.Common.{◌≡◌, ℕ, ◌≤◌, List, length, Option, None, Some, Result, Ok, Err, lit<, refl}
use Rattle.std.specs.Prelude.{Contains, IfSome}
use Rattle.pair_io.specs.Counts.{NoneFell}
use Rattle.sel_box.specs.declared.packet.Direction.{Direction}
use Rattle.sel_box.specs.declared.packet.Direction.TheVariants.{Outbound, Inbound}
use Rattle.spd_cut.specs.declared.entry.Entry.{Entry}
use Rattle.spd_cut.specs.Entries.{entries}
use Rattle.spd_cut.specs.Steps.{first_over, steps}
use Rattle.spd_file.specs.Policy.{policy_meaning}
use Rattle.spd_line.specs.declared.line.LineParts.{LineParts}
use Rattle.audit_frame.specs.declared.refusal.Refusal.{Refusal}
use Rattle.audit_frame.specs.Answer.{Answer, most_policy, with_limit}
use Rattle.audit_frame.specs.Causes.{InputFile, Reads}
use Rattle.audit_frame.specs.Loading.{LimitCauses, policy_file}
use Rattle.audit_frame.specs.Runs.{Runs}
use Rattle.audit_frame.proofs.Runs.{Runs-over, Runs-policy, Runs-within}
use Rattle.cmd_decorrelate.specs.declared.command.Decorrelate.{Decorrelate}
use Rattle.cmd_decorrelate.specs.Decorrelate.{by_lines, decorrelate_answer, decorrelate_files, lines_answer, views_answer}

-- The file of the policy is one that the run reads.
is_known : (command : Decorrelate) → Contains (decorrelate_files command) (policy_file command.policy)
is_known command = (0, lit< tt, refl)

-- What follows on the lines of the policy is what follows on its file.
pub Runs-lines : (command : Decorrelate) (lines : List LineParts) (told : List ℕ → Option (List ℕ)) (before now : Reads) (faults faults' : ℕ)
    (text text' : Option (List ℕ)) (ended : Result (Unit {0}) Refusal)
    → IfSome (told command.policy.name) (λ c. length c ≤ most_policy) → IfSome (told command.policy.name) (λ c. policy_meaning c ≡ Ok lines)
    → NoneFell before.faults now.faults → before.taken ≤ now.taken
    → Runs (Some (lines_answer command.policy.word command.limit lines)) (decorrelate_files command) told now now faults faults' text text' ended
    → Runs (decorrelate_answer told command) (decorrelate_files command) told before now faults faults' text text' ended
Runs-lines command lines told before now faults faults' text text' ended =
    Runs-policy lines (by_lines command.policy.word command.limit) (decorrelate_files command) told command.policy before now now faults faults'
    text text' ended

-- The policy wasn't cut in a direction.
pub Runs-over_limit : (command : Decorrelate) (direction : Direction) (lines : List LineParts) (next : Answer (Unit {0})) (word : ℕ)
    (told : List ℕ → Option (List ℕ)) (before now : Reads) (faults : ℕ) (text : Option (List ℕ)) (refusal : Refusal) → word ≡ command.policy.word
    → LimitCauses word direction (first_over command.limit (steps direction lines)) refusal
    → Runs (Some (with_limit command.policy.word command.limit direction lines next)) (decorrelate_files command) told before now faults faults text text
    (Err refusal)
Runs-over_limit command direction lines next word told before now faults text refusal word_is cause =
    Runs-over next (decorrelate_files command) told command.policy.word command.limit direction lines (policy_file command.policy) before now faults text
    refusal (is_known command) (record { named = refl; is_policy = refl }) (rw word_is at cause)

-- Both directions were cut, so what follows is what follows on their entries.
pub Runs-entries : (word limit : ℕ) (lines : List LineParts) (outbound inbound : List Entry) (files : List InputFile) (told : List ℕ → Option (List ℕ))
    (before now : Reads) (faults faults' : ℕ) (text text' : Option (List ℕ)) (ended : Result (Unit {0}) Refusal)
    → first_over limit (steps Outbound lines) ≡ None → first_over limit (steps Inbound lines) ≡ None
    → outbound ≡ entries Outbound lines → inbound ≡ entries Inbound lines
    → Runs (Some (views_answer lines outbound inbound)) files told before now faults faults' text text' ended
    → Runs (Some (lines_answer word limit lines)) files told before now faults faults' text text' ended
Runs-entries word limit lines outbound inbound files told before now faults faults' text text' ended out_fits in_fits out_is in_is runs =
    Runs-within _ files told word limit Outbound lines before now faults faults' text text' ended out_fits
    (Runs-within _ files told word limit Inbound lines before now faults faults' text text' ended in_fits (rw (out_is, in_is) at runs))
