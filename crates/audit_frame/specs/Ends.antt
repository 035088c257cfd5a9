-- How a run ends, and the text that it leaves, against an answer.
use Rattle.std.specs.Prelude.{◌≡◌, ℕ, List, take, Option, Some, None, Result, Ok, Err}
use Rattle.pair_io.specs.Counts.{Rose}
use Rattle.pair_io.specs.Gains.{Gains, GainsPrefix}
use Rattle.audit_frame.specs.declared.refusal.Refusal.{Refusal}
use Rattle.audit_frame.specs.declared.refusal.WriteRefused.{WriteRefused}
use Rattle.audit_frame.specs.Answer.{Answer, text_of}

-- It ended as the answer does, and all lines of the answer were written.
pub record IsAnswer {A : Type 0} (answer : Answer A) (before now : Option (List ℕ)) (ended : Result A Refusal) : Type 0 where
  pub ended_is : ended ≡ answer.ended
  pub all_lines : Gains before now (text_of answer.lines)

-- A run that ended out of memory or at a write left the first bytes of the text, one that ended at a read the
-- first lines, and every other run gave the answer.
abbrev pub EndsBy : {A : Type 0} → Answer A → Option (List ℕ) → Option (List ℕ) → Result A Refusal → Type 0
EndsBy answer before now (Err Refusal.NoMemory) = GainsPrefix before now (text_of answer.lines)
EndsBy answer before now (Err Refusal.WriteFault) = GainsPrefix before now (text_of answer.lines)
EndsBy answer before now (Err (Refusal.ReadFault word)) = (n : ℕ) × Gains before now (text_of (take n answer.lines))
EndsBy answer before now (Err (Refusal.TooLong word)) = IsAnswer answer before now (Err (Refusal.TooLong word))
EndsBy answer before now (Err (Refusal.PolicyFault word fault)) = IsAnswer answer before now (Err (Refusal.PolicyFault word fault))
EndsBy answer before now (Err (Refusal.EntryLimit word direction line at)) =
    IsAnswer answer before now (Err (Refusal.EntryLimit word direction line at))
EndsBy answer before now (Ok end) = IsAnswer answer before now (Ok end)

-- The same where there is an answer: where each file that it needs tells its content.
abbrev pub Ends : {A : Type 0} → Option (Answer A) → Option (List ℕ) → Option (List ℕ) → Result A Refusal → Type 0
Ends None before now ended = Unit {0}
Ends (Some answer) before now ended = EndsBy answer before now ended

-- The refusal of a run whose text wasn't written to its end.
abbrev pub unwritten : WriteRefused → Refusal
unwritten WriteRefused.WriteFault = Refusal.WriteFault
unwritten WriteRefused.NoMemory = Refusal.NoMemory

-- The lines of an answer were written, up to its end, or the first bytes of them.
abbrev pub Writes : {A : Type 0} → Answer A → Option (List ℕ) → Option (List ℕ) → Result A WriteRefused → Type 0
Writes answer before now (Ok end) = IsAnswer answer before now (Ok end)
Writes answer before now (Err refused) = GainsPrefix before now (text_of answer.lines)

-- A fault of writing is one that the sink counted; where there was no memory it counted none.
abbrev pub WriteCauses : ℕ → ℕ → WriteRefused → Type 0
WriteCauses before now WriteRefused.WriteFault = Rose before now
WriteCauses before now WriteRefused.NoMemory = now ≡ before
