-- A run that loads its files one after another, and then writes.
use Rattle.std.proofs.Common.{◌≡◌, ℕ, ◌<◌, ◌≤◌, List, length, Option, Some, None, true, false, nat_le, refl, arith, Result, Ok, Err}
use Rattle.std.proofs.lemmas.Bool.Decides.{nat_tests}
use Rattle.std.specs.Prelude.{Any, Contains, IfSome}
use Rattle.pair_io.specs.Counts.{NoneFell, Rose}
use Rattle.pair_io.specs.Gains.{GainsPrefix}
use Rattle.pair_io.proofs.Gains.{Gains-nothing, GainsPrefix-nothing}
use Rattle.sel_box.specs.declared.packet.Direction.{Direction}
use Rattle.spd_cut.specs.Steps.{first_over, steps}
use Rattle.spd_file.specs.declared.fault.PolicyFault.{PolicyFault}
use Rattle.spd_file.specs.Policy.{policy_meaning}
use Rattle.spd_line.specs.declared.line.LineParts.{LineParts}
use Rattle.audit_frame.specs.declared.refusal.Refusal.{Refusal}
use Rattle.audit_frame.specs.declared.refusal.WriteRefused.{WriteRefused}
use Rattle.audit_frame.specs.Answer.{Answer, most_policy, text_of, with_content, with_file, with_limit, with_policy, within}
use Rattle.audit_frame.specs.Causes.{Causes, InputFile, IsPolicyFile, IsTooLong, IsUnread, Reads}
use Rattle.audit_frame.specs.Ends.{Ends, IsAnswer, unwritten, WriteCauses}
use Rattle.audit_frame.specs.Loading.{LimitCauses, LoadCauses, plain_file, policy_file, PolicyCauses}
use Rattle.audit_frame.specs.Runs.{Runs}
use Rattle.audit_frame.specs.Words.{FileWord}

-- Causes that are known since a later state are causes since an earlier one.

Rose-later : (a b c : ℕ) → a ≤ b → Rose b c → Rose a c
Rose-later a b c first rose = omega arith

Any-later : {X : Type 0} (P Q : X → Type 0) (xs : List X) → ((x : X) → P x → Q x) → Any P xs → Any Q xs
Any-later P Q xs all holds = (holds.0, holds.1, holds.2, holds.3, all holds.1 holds.4)

-- One of the files has what it has.
Any-one : {X : Type 0} (P : X → Type 0) (xs : List X) (x : X) → Contains xs x → P x → Any P xs
Any-one P xs x has holds = (has.0, x, has.1, has.2, holds)

pub Causes-later : {A : Type 0} (files : List InputFile) (told : List ℕ → Option (List ℕ)) (before between now : Reads)
    (ended : Result A Refusal) → NoneFell before.faults between.faults → before.taken ≤ between.taken
    → Causes files told between now ended → Causes files told before now ended
Causes-later files told before between now (Ok end) none_fell taken cause = cause
Causes-later files told before between now (Err (Refusal.ReadFault word)) none_fell taken cause =
    Any-later (IsUnread word between now) (IsUnread word before now) files
    (λ file unread. record {
      named = unread.named;
      failed = Rose-later (before.faults file.name) (between.faults file.name) (now.faults file.name) (none_fell file.name) unread.failed;
    }) cause
Causes-later files told before between now (Err (Refusal.TooLong word)) none_fell taken cause =
    Any-later (IsTooLong word told between now) (IsTooLong word told before now) files
    (λ file long. record {
      named = long.named;
      longer = long.longer;
      taken = Rose-later before.taken between.taken now.taken taken long.taken;
      passed = long.passed;
    }) cause
Causes-later files told before between now (Err (Refusal.PolicyFault word fault)) none_fell taken cause = cause
Causes-later files told before between now (Err (Refusal.EntryLimit word direction line at)) none_fell taken cause = cause
Causes-later files told before between now (Err Refusal.WriteFault) none_fell taken cause = cause
Causes-later files told before between now (Err Refusal.NoMemory) none_fell taken cause = cause

-- How a run ends that goes on with the content of a file.

within-content : {A : Type 0} (content : Option (List ℕ)) (word most : ℕ) (bytes : List ℕ) (next : List ℕ → Option (Answer A)) (before now : Option (List ℕ))
    (ended : Result A Refusal) → IfSome content (λ c. bytes ≡ c) → length bytes ≤ most → Ends (next bytes) before now ended
    → Ends (within word most next content) before now ended
within-content None word most bytes next before now ended same fits ends = tt
within-content (Some content) word most bytes next before now ended same fits ends =
    let yes : nat_le (length bytes) most ≡ true = grind (arith, nat_tests) in
    rw (← same, yes) ends

within-policy : {A : Type 0} (content : Option (List ℕ)) (word : ℕ) (lines : List LineParts) (next : List LineParts → Option (Answer A))
    (before now : Option (List ℕ)) (ended : Result A Refusal) → IfSome content (λ c. length c ≤ most_policy)
    → IfSome content (λ c. policy_meaning c ≡ Ok lines) → Ends (next lines) before now ended
    → Ends (within word most_policy (with_content word next) content) before now ended
within-policy None word lines next before now ended fits same ends = tt
within-policy (Some content) word lines next before now ended fits same ends =
    let yes : nat_le (length content) most_policy ≡ true = grind (arith, nat_tests) in
    rw (yes, same) ends

-- How it ends where the file is refused.

within-too_long : {A : Type 0} (content : Option (List ℕ)) (word most : ℕ) (next : List ℕ → Option (Answer A)) (before : Option (List ℕ))
    → IfSome content (λ c. most < length c) → Ends (within word most next content) before before (Err (Refusal.TooLong word))
within-too_long None word most next before over = tt
within-too_long (Some content) word most next before over =
    let no : nat_le (length content) most ≡ false = grind (arith, nat_tests) in
    rw no (record { ended_is = refl; all_lines = Gains-nothing before before refl })

within-fault : {A : Type 0} (content : Option (List ℕ)) (word : ℕ) (fault : PolicyFault) (next : List LineParts → Option (Answer A)) (before : Option (List ℕ))
    → IfSome content (λ c. length c ≤ most_policy) → IfSome content (λ c. policy_meaning c ≡ Err fault)
    → Ends (within word most_policy (with_content word next) content) before before (Err (Refusal.PolicyFault word fault))
within-fault None word fault next before fits same = tt
within-fault (Some content) word fault next before fits same =
    let yes : nat_le (length content) most_policy ≡ true = grind (arith, nat_tests) in
    rw (yes, same) (record { ended_is = refl; all_lines = Gains-nothing before before refl })

Ends-read_fault : {A : Type 0} (answer : Option (Answer A)) (before : Option (List ℕ)) (word : ℕ) → Ends answer before before (Err (Refusal.ReadFault word))
Ends-read_fault None before word = tt
Ends-read_fault (Some answer) before word = (0, Gains-nothing before before refl)

Ends-no_memory : {A : Type 0} (answer : Option (Answer A)) (before : Option (List ℕ)) → Ends answer before before (Err Refusal.NoMemory)
Ends-no_memory None before = tt
Ends-no_memory (Some answer) before = GainsPrefix-nothing refl

-- A file that was not loaded ends the run.
pub Runs-unloaded : {A : Type 0} (next : List ℕ → Option (Answer A)) (files : List InputFile) (told : List ℕ → Option (List ℕ)) (file : FileWord)
    (most : ℕ) (before now : Reads) (faults : ℕ) (text : Option (List ℕ)) (refusal : Refusal)
    → Contains files (plain_file file most) → LoadCauses (plain_file file most) told before now refusal
    → Runs (with_file told file most next) files told before now faults faults text text (Err refusal)
Runs-unloaded next files told file most before now faults text (Refusal.ReadFault at) known cause = record {
  ends = Ends-read_fault (with_file told file most next) text at;
  causes = Any-one _ files (plain_file file most) known cause;
  counts = refl;
  leaves = refl;
}
Runs-unloaded next files told file most before now faults text (Refusal.TooLong at) known cause = record {
  ends = rw (← cause.named) (within-too_long (told file.name) file.word most next text cause.longer);
  causes = Any-one _ files (plain_file file most) known cause;
  counts = refl;
  leaves = refl;
}
Runs-unloaded next files told file most before now faults text Refusal.NoMemory known cause = record {
  ends = Ends-no_memory (with_file told file most next) text;
  causes = tt;
  counts = refl;
  leaves = tt;
}
Runs-unloaded next files told file most before now faults text (Refusal.PolicyFault at fault) known cause = absurd cause
Runs-unloaded next files told file most before now faults text (Refusal.EntryLimit at direction line edit) known cause = absurd cause
Runs-unloaded next files told file most before now faults text Refusal.WriteFault known cause = absurd cause

-- What follows on the content of a file is what follows on the file.
pub Runs-file : {A : Type 0} (bytes : List ℕ) (next : List ℕ → Option (Answer A)) (files : List InputFile) (told : List ℕ → Option (List ℕ))
    (file : FileWord) (most : ℕ) (before between now : Reads) (faults faults' : ℕ) (text text' : Option (List ℕ)) (ended : Result A Refusal)
    → IfSome (told file.name) (λ c. bytes ≡ c) → length bytes ≤ most → NoneFell before.faults between.faults → before.taken ≤ between.taken
    → Runs (next bytes) files told between now faults faults' text text' ended
    → Runs (with_file told file most next) files told before now faults faults' text text' ended
Runs-file bytes next files told file most before between now faults faults' text text' ended same fits none_fell taken runs = record {
  ends = within-content (told file.name) file.word most bytes next text text' ended same fits runs.ends;
  causes = Causes-later files told before between now ended none_fell taken runs.causes;
  counts = runs.counts;
  leaves = runs.leaves;
}

-- A policy file that was not read ends the run.
pub Runs-unread : {A : Type 0} (next : List LineParts → Option (Answer A)) (files : List InputFile) (told : List ℕ → Option (List ℕ)) (file : FileWord)
    (before now : Reads) (faults : ℕ) (text : Option (List ℕ)) (refusal : Refusal)
    → Contains files (policy_file file) → PolicyCauses (policy_file file) told before now refusal
    → Runs (with_policy told file next) files told before now faults faults text text (Err refusal)
Runs-unread next files told file before now faults text (Refusal.ReadFault at) known cause = record {
  ends = Ends-read_fault (with_policy told file next) text at;
  causes = Any-one _ files (policy_file file) known cause;
  counts = refl;
  leaves = refl;
}
Runs-unread next files told file before now faults text (Refusal.TooLong at) known cause = record {
  ends = rw (← cause.named) (within-too_long (told file.name) file.word most_policy (with_content file.word next) text cause.longer);
  causes = Any-one _ files (policy_file file) known cause;
  counts = refl;
  leaves = refl;
}
Runs-unread next files told file before now faults text (Refusal.PolicyFault at fault) known cause = record {
  ends = rw (← cause.named) (within-fault (told file.name) file.word fault next text cause.fits cause.faulty);
  causes = Any-one _ files (policy_file file) known cause;
  counts = refl;
  leaves = refl;
}
Runs-unread next files told file before now faults text Refusal.NoMemory known cause = record {
  ends = Ends-no_memory (with_policy told file next) text;
  causes = tt;
  counts = refl;
  leaves = tt;
}
Runs-unread next files told file before now faults text (Refusal.EntryLimit at direction line edit) known cause = absurd cause
Runs-unread next files told file before now faults text Refusal.WriteFault known cause = absurd cause

-- What follows on the lines of a policy is what follows on its file.
pub Runs-policy : {A : Type 0} (lines : List LineParts) (next : List LineParts → Option (Answer A)) (files : List InputFile)
    (told : List ℕ → Option (List ℕ)) (file : FileWord) (before between now : Reads) (faults faults' : ℕ) (text text' : Option (List ℕ))
    (ended : Result A Refusal)
    → IfSome (told file.name) (λ c. length c ≤ most_policy) → IfSome (told file.name) (λ c. policy_meaning c ≡ Ok lines)
    → NoneFell before.faults between.faults → before.taken ≤ between.taken
    → Runs (next lines) files told between now faults faults' text text' ended
    → Runs (with_policy told file next) files told before now faults faults' text text' ended
Runs-policy lines next files told file before between now faults faults' text text' ended fits same none_fell taken runs = record {
  ends = within-policy (told file.name) file.word lines next text text' ended fits same runs.ends;
  causes = Causes-later files told before between now ended none_fell taken runs.causes;
  counts = runs.counts;
  leaves = runs.leaves;
}

-- A limit that is passed ends the run.
pub Runs-over : {A : Type 0} (next : Answer A) (files : List InputFile) (told : List ℕ → Option (List ℕ)) (word limit : ℕ) (direction : Direction)
    (lines : List LineParts) (file : InputFile) (before now : Reads) (faults : ℕ) (text : Option (List ℕ)) (refusal : Refusal)
    → Contains files file → IsPolicyFile word file
    → LimitCauses word direction (first_over limit (steps direction lines)) refusal
    → Runs (Some (with_limit word limit direction lines next)) files told before now faults faults text text (Err refusal)
Runs-over next files told word limit direction lines file before now faults text (Refusal.EntryLimit at towards line edit) known is_policy cause =
    record {
      ends = rw (cause.named, cause.direction_is, cause.no_edit, cause.first) (record { ended_is = refl; all_lines = Gains-nothing text text refl });
      causes = rw cause.named (Any-one _ files file known is_policy);
      counts = refl;
      leaves = rw cause.no_edit refl;
    }
Runs-over next files told word limit direction lines file before now faults text Refusal.NoMemory known is_policy cause =
    record { ends = GainsPrefix-nothing refl; causes = tt; counts = refl; leaves = tt }
Runs-over next files told word limit direction lines file before now faults text (Refusal.ReadFault at) known is_policy cause = absurd cause
Runs-over next files told word limit direction lines file before now faults text (Refusal.TooLong at) known is_policy cause = absurd cause
Runs-over next files told word limit direction lines file before now faults text (Refusal.PolicyFault at fault) known is_policy cause = absurd cause
Runs-over next files told word limit direction lines file before now faults text Refusal.WriteFault known is_policy cause = absurd cause

-- A policy that stays within the limit is gone on with.
pub Runs-within : {A : Type 0} (next : Answer A) (files : List InputFile) (told : List ℕ → Option (List ℕ)) (word limit : ℕ) (direction : Direction)
    (lines : List LineParts) (before now : Reads) (faults faults' : ℕ) (text text' : Option (List ℕ)) (ended : Result A Refusal)
    → first_over limit (steps direction lines) ≡ None
    → Runs (Some next) files told before now faults faults' text text' ended
    → Runs (Some (with_limit word limit direction lines next)) files told before now faults faults' text text' ended
Runs-within next files told word limit direction lines before now faults faults' text text' ended fits runs = rw fits runs

-- All lines were written.
pub Runs-written : {A : Type 0} (answer : Answer A) (files : List InputFile) (told : List ℕ → Option (List ℕ)) (before now : Reads) (faults faults' : ℕ)
    (text text' : Option (List ℕ)) (end : A) → IsAnswer answer text text' (Ok end) → faults' ≡ faults
    → Runs (Some answer) files told before now faults faults' text text' (Ok end)
Runs-written answer files told before now faults faults' text text' end is none = record { ends = is; causes = tt; counts = none; leaves = tt }

-- A prefix of them was.
pub Runs-unwritten : {A : Type 0} (answer : Answer A) (files : List InputFile) (told : List ℕ → Option (List ℕ)) (before now : Reads)
    (faults faults' : ℕ) (text text' : Option (List ℕ)) (refused : WriteRefused) → WriteCauses faults faults' refused
    → GainsPrefix text text' (text_of answer.lines)
    → Runs (Some answer) files told before now faults faults' text text' (Err (unwritten refused))
Runs-unwritten answer files told before now faults faults' text text' WriteRefused.WriteFault cause prefix =
    record { ends = prefix; causes = tt; counts = cause; leaves = tt }
Runs-unwritten answer files told before now faults faults' text text' WriteRefused.NoMemory cause prefix =
    record { ends = prefix; causes = tt; counts = cause; leaves = tt }
