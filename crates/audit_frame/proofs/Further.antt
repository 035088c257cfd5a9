-- A run whose limit is asked before a further file is read.
use Rattle.std.proofs.Common.{◌≡◌, ℕ, List, Option, Some, None, Result, Ok, Err, refl, arith}
use Rattle.std.specs.Prelude.{Any, Contains}
use Rattle.pair_io.proofs.Gains.{Gains-nothing, GainsPrefix-nothing}
use Rattle.sel_box.specs.declared.packet.Direction.{Direction}
use Rattle.spd_cut.specs.Steps.{first_over, steps}
use Rattle.spd_line.specs.declared.line.LineParts.{LineParts}
use Rattle.audit_frame.specs.declared.refusal.Refusal.{Refusal}
use Rattle.audit_frame.specs.Answer.{Answer, refusing}
use Rattle.audit_frame.specs.Causes.{InputFile, IsPolicyFile, Reads}
use Rattle.audit_frame.specs.Ends.{Ends, IsAnswer}
use Rattle.audit_frame.specs.Further.{unless_over_before, with_limit_before}
use Rattle.audit_frame.specs.Loading.{LimitCauses}
use Rattle.audit_frame.specs.Runs.{Runs}

-- One of the files is this policy.
known : (files : List InputFile) (file : InputFile) (word : ℕ) → Contains files file → IsPolicyFile word file → Any (IsPolicyFile word) files
known files file word has is = (has.0, file, has.1, has.2, is)

no_memory : {A : Type 0} (answer : Option (Answer A)) (text : Option (List ℕ)) → Ends answer text text (Err Refusal.NoMemory)
no_memory None text = tt
no_memory (Some answer) text = GainsPrefix-nothing refl

-- A limit that is passed ends the run.
pub Runs-over_before : {A : Type 0} (next : Option (Answer A)) (files : List InputFile) (told : List ℕ → Option (List ℕ)) (word limit : ℕ)
    (direction : Direction) (lines : List LineParts) (file : InputFile) (before now : Reads) (faults : ℕ) (text : Option (List ℕ)) (refusal : Refusal)
    → Contains files file → IsPolicyFile word file
    → LimitCauses word direction (first_over limit (steps direction lines)) refusal
    → Runs (with_limit_before word limit direction lines next) files told before now faults faults text text (Err refusal)
Runs-over_before next files told word limit direction lines file before now faults text (Refusal.EntryLimit at towards line edit) has is cause =
    record {
      ends = rw (cause.named, cause.direction_is, cause.no_edit, cause.first) (record { ended_is = refl; all_lines = Gains-nothing text text refl });
      causes = rw cause.named (known files file word has is);
      counts = refl;
      leaves = rw cause.no_edit refl;
    }
Runs-over_before next files told word limit direction lines file before now faults text Refusal.NoMemory has is cause =
    record { ends = no_memory (with_limit_before word limit direction lines next) text; causes = tt; counts = refl; leaves = tt }
Runs-over_before next files told word limit direction lines file before now faults text (Refusal.ReadFault at) has is cause = absurd cause
Runs-over_before next files told word limit direction lines file before now faults text (Refusal.TooLong at) has is cause = absurd cause
Runs-over_before next files told word limit direction lines file before now faults text (Refusal.PolicyFault at fault) has is cause = absurd cause
Runs-over_before next files told word limit direction lines file before now faults text Refusal.WriteFault has is cause = absurd cause

-- A policy that stays within the limit is gone on with.
pub Runs-within_before : {A : Type 0} (next : Option (Answer A)) (files : List InputFile) (told : List ℕ → Option (List ℕ)) (word limit : ℕ)
    (direction : Direction) (lines : List LineParts) (before now : Reads) (faults faults' : ℕ) (text text' : Option (List ℕ)) (ended : Result A Refusal)
    → first_over limit (steps direction lines) ≡ None → Runs next files told before now faults faults' text text' ended
    → Runs (with_limit_before word limit direction lines next) files told before now faults faults' text text' ended
Runs-within_before next files told word limit direction lines before now faults faults' text text' ended fits runs = rw fits runs

-- A run that came to an end of the command's own didn't pass the limit.
refused : {A : Type 0} {before now : Option (List ℕ)} (refusal : Refusal) (end : A) → IsAnswer (refusing refusal) before now (Ok end) → ⊥
refused refusal end is = grind (arith, is.ended_is)

under : {A : Type 0} (word : ℕ) (direction : Direction) (next : Option (Answer A)) (over : Option ℕ) (before now : Option (List ℕ)) (end : A)
    → Ends (unless_over_before word direction next over) before now (Ok end) → Ends next before now (Ok end)
under word direction next None before now end ends = ends
under word direction next (Some line) before now end ends = absurd (refused (Refusal.EntryLimit word direction line None) end ends)

pub Ends-under_before : {A : Type 0} (word limit : ℕ) (direction : Direction) (lines : List LineParts) (next : Option (Answer A))
    (before now : Option (List ℕ)) (end : A)
    → Ends (with_limit_before word limit direction lines next) before now (Ok end) → Ends next before now (Ok end)
Ends-under_before word limit direction lines next before now end ends =
    under word direction next (first_over limit (steps direction lines)) before now end ends
