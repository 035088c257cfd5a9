-- The refusals of the parts of a run, by the file that they read.
use Rattle.std.specs.Prelude.{◌≡◌, ℕ, List, Option, None, Some, true, false}
use Rattle.sel_box.specs.declared.packet.Direction.{Direction}
use Rattle.audit_frame.specs.declared.refusal.Refusal.{Refusal}
use Rattle.audit_frame.specs.Answer.{most_policy}
use Rattle.audit_frame.specs.Causes.{HasPolicyFault, InputFile, IsTooLong, IsUnread, Reads}
use Rattle.audit_frame.specs.Words.{FileWord}

-- A file that is no policy, of at most so many bytes.
abbrev pub plain_file : FileWord → ℕ → InputFile
plain_file file most = record { word = file.word; name = file.name; most = most; is_policy = false }

-- A policy file.
abbrev pub policy_file : FileWord → InputFile
policy_file file = record { word = file.word; name = file.name; most = most_policy; is_policy = true }

-- A file wasn't loaded: a read of it failed, it is too long, or there was no memory.
abbrev pub LoadCauses : InputFile → (List ℕ → Option (List ℕ)) → Reads → Reads → Refusal → Type 0
LoadCauses file told before now (Refusal.ReadFault word) = IsUnread word before now file
LoadCauses file told before now (Refusal.TooLong word) = IsTooLong word told before now file
LoadCauses file told before now Refusal.NoMemory = Unit {0}
LoadCauses file told before now _ = ⊥

-- A policy file wasn't read: it wasn't loaded, or has a fault.
abbrev pub PolicyCauses : InputFile → (List ℕ → Option (List ℕ)) → Reads → Reads → Refusal → Type 0
PolicyCauses file told before now (Refusal.ReadFault word) = IsUnread word before now file
PolicyCauses file told before now (Refusal.TooLong word) = IsTooLong word told before now file
PolicyCauses file told before now (Refusal.PolicyFault word fault) = HasPolicyFault word fault told file
PolicyCauses file told before now Refusal.NoMemory = Unit {0}
PolicyCauses file told before now _ = ⊥

-- A policy wasn't cut in a direction: the line of the first count that passes the limit, or no memory.
pub record IsOver (word : ℕ) (direction : Direction) (over : Option ℕ) (at : ℕ) (towards : Direction) (line : ℕ) (edit : Option ℕ) : Type 0 where
  pub named : at ≡ word
  pub direction_is : towards ≡ direction
  pub first : over ≡ Some line
  pub no_edit : edit ≡ None

abbrev pub LimitCauses : ℕ → Direction → Option ℕ → Refusal → Type 0
LimitCauses word direction over (Refusal.EntryLimit at towards line edit) = IsOver word direction over at towards line edit
LimitCauses word direction over Refusal.NoMemory = Unit {0}
LimitCauses word direction over _ = ⊥
