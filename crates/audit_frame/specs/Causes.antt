-- What each refusal rests on: the counts of files and sinks, and what the files tell.
use Rattle.std.specs.Prelude.{◌≡◌, ◌≢◌, ℕ, Bool, true, ◌<◌, ◌≤◌, List, length, Any, Option, IfSome, Result, Ok, Err}
use Rattle.pair_io.specs.Counts.{Rose}
use Rattle.spd_file.specs.declared.fault.PolicyFault.{PolicyFault}
use Rattle.spd_file.specs.Policy.{policy_meaning}
use Rattle.audit_frame.specs.declared.refusal.Refusal.{Refusal}

-- The counts of some files: faults of reading by name, bytes handed out, and the place behind the last of them.
pub record Reads : Type 0 where
  pub faults : List ℕ → ℕ
  pub taken : ℕ
  pub end : ℕ

-- The counts, from what the files mean.
abbrev pub reads : (List ℕ → ℕ) → ℕ → ℕ → Reads
reads faults taken end = record { faults = faults; taken = taken; end = end }

-- A file that a word of the command names: the number of the word, the name, the most bytes that it may have, and
-- whether it is a policy.
pub record InputFile : Type 0 where
  pub word : ℕ
  pub name : List ℕ
  pub most : ℕ
  pub is_policy : Bool

-- The word names the file, and a read of it failed.
pub record IsUnread (word : ℕ) (before now : Reads) (file : InputFile) : Type 0 where
  pub named : file.word ≡ word
  pub failed : Rose (before.faults file.name) (now.faults file.name)

-- The word names the file, which has more bytes than it may: what is told of it is longer, and more was handed out.
pub record IsTooLong (word : ℕ) (told : List ℕ → Option (List ℕ)) (before now : Reads) (file : InputFile) : Type 0 where
  pub named : file.word ≡ word
  pub longer : IfSome (told file.name) (λ content. file.most < length content)
  pub taken : Rose before.taken now.taken
  pub passed : file.most < now.end

-- The word names the file, a policy no longer than it may be, and the fault, which is no lack of memory, is that of
-- what is told of it.
pub record HasPolicyFault (word : ℕ) (fault : PolicyFault) (told : List ℕ → Option (List ℕ)) (file : InputFile) : Type 0 where
  pub named : file.word ≡ word
  pub is_policy : file.is_policy ≡ true
  pub held : fault ≢ PolicyFault.NoMemory
  pub fits : IfSome (told file.name) (λ content. length content ≤ file.most)
  pub faulty : IfSome (told file.name) (λ content. policy_meaning content ≡ Err fault)

-- The word names the file, a policy.
pub record IsPolicyFile (word : ℕ) (file : InputFile) : Type 0 where
  pub named : file.word ≡ word
  pub is_policy : file.is_policy ≡ true

-- Each refusal of a file is that of one of the command's, and has its cause there. A lack of memory may come anywhere.
abbrev pub Causes : {A : Type 0} → List InputFile → (List ℕ → Option (List ℕ)) → Reads → Reads → Result A Refusal → Type 0
Causes files told before now (Ok end) = Unit {0}
Causes files told before now (Err (Refusal.ReadFault word)) = Any (IsUnread word before now) files
Causes files told before now (Err (Refusal.TooLong word)) = Any (IsTooLong word told before now) files
Causes files told before now (Err (Refusal.PolicyFault word fault)) = Any (HasPolicyFault word fault told) files
Causes files told before now (Err (Refusal.EntryLimit word direction line at)) = Any (IsPolicyFile word) files
Causes files told before now (Err Refusal.WriteFault) = Unit {0}
Causes files told before now (Err Refusal.NoMemory) = Unit {0}
