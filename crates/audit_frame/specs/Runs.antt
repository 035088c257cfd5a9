-- What is known of a run, whatever its command.
use Rattle.std.specs.Prelude.{◌≡◌, ℕ, List, Option, Some, None, Result, Ok, Err}
use Rattle.pair_io.specs.Counts.{Rose}
use Rattle.audit_frame.specs.declared.refusal.Refusal.{Refusal}
use Rattle.audit_frame.specs.Answer.{Answer}
use Rattle.audit_frame.specs.Causes.{Causes, Reads, InputFile}
use Rattle.audit_frame.specs.Ends.{Ends}

-- A file that can't be read or is too long, a policy's fault, and a limit that is passed leave the text as it was. A
-- limit that is passed at a trace line comes behind the lines before it.
abbrev pub Leaves : {A : Type 0} → Option (List ℕ) → Option (List ℕ) → Result A Refusal → Type 0
Leaves before now (Ok end) = Unit {0}
Leaves before now (Err (Refusal.ReadFault word)) = now ≡ before
Leaves before now (Err (Refusal.TooLong word)) = now ≡ before
Leaves before now (Err (Refusal.PolicyFault word fault)) = now ≡ before
Leaves before now (Err (Refusal.EntryLimit word direction line None)) = now ≡ before
Leaves before now (Err (Refusal.EntryLimit word direction line (Some at))) = Unit {0}
Leaves before now (Err Refusal.WriteFault) = Unit {0}
Leaves before now (Err Refusal.NoMemory) = Unit {0}

-- A run ends by a fault of writing exactly where the sink counted one.
abbrev pub Counts : {A : Type 0} → ℕ → ℕ → Result A Refusal → Type 0
Counts faults faults' (Err Refusal.WriteFault) = Rose faults faults'
Counts faults faults' _ = faults' ≡ faults

-- The run gave the answer or a prefix of it, each refusal has its cause, no fault of the sink passes unsaid, and what must stay has stayed.
pub record Runs {A : Type 0} (answer : Option (Answer A)) (files : List InputFile) (told : List ℕ → Option (List ℕ))
    (before now : Reads) (faults faults' : ℕ) (text text' : Option (List ℕ)) (ended : Result A Refusal) : Type 0 where
  pub ends : Ends answer text text' ended
  pub causes : Causes files told before now ended
  pub counts : Counts faults faults' ended
  pub leaves : Leaves text text' ended
