-- What a command answers, as a function of what its files tell.
use Rattle.std.specs.Prelude.{◌≡◌, ℕ, List, [], ◌∷◌, ◌++◌, length, nat_le, Option, Some, None, Result, Ok, Err, if◌then◌else◌}
use Rattle.pair_io.specs.Gains.{Gains}
use Rattle.sel_box.specs.declared.packet.Direction.{Direction}
use Rattle.spd_cut.specs.Steps.{first_over, steps}
use Rattle.spd_file.specs.declared.fault.PolicyFault.{PolicyFault}
use Rattle.spd_file.specs.Policy.{policy_meaning}
use Rattle.spd_line.specs.declared.line.LineParts.{LineParts}
use Rattle.audit_frame.specs.declared.refusal.Refusal.{Refusal}
use Rattle.audit_frame.specs.Words.{FileWord}

-- How the command ends, by an answer of its own or by a refusal, and the lines, each with its end, that are
-- written before.
pub record Answer (A : Type 0) : Type 0 where
  pub ended : Result A Refusal
  pub lines : List (List ℕ)

-- The lines one after another.
abbrev pub text_of : List (List ℕ) → List ℕ
text_of [] = []
text_of (line ∷ lines) = line ++ text_of lines

-- An end of the command's own, before which nothing more is written.
abbrev pub ending : {A : Type 0} → A → Answer A
ending end = record { ended = Ok end; lines = [] }

-- A refusal, before which nothing more is written.
abbrev pub refusing : {A : Type 0} → Refusal → Answer A
refusing refusal = record { ended = Err refusal; lines = [] }

-- One more line before the others.
abbrev pub with_line : {A : Type 0} → List ℕ → Answer A → Answer A
with_line line answer = record { ended = answer.ended; lines = line ∷ answer.lines }

-- The same end in other words, and the same answer.
abbrev pub map_ended : {A B : Type 0} → (A → B) → Result A Refusal → Result B Refusal
map_ended f (Ok end) = Ok (f end)
map_ended f (Err refusal) = Err refusal

abbrev pub map_answer : {A B : Type 0} → (A → B) → Answer A → Answer B
map_answer f answer = record { ended = map_ended f answer.ended; lines = answer.lines }

-- A content of at most so many bytes is gone on with; the file of that word is too long where there are more.
abbrev pub within : {A : Type 0} → ℕ → ℕ → (List ℕ → Option (Answer A)) → Option (List ℕ) → Option (Answer A)
within word most next None = None
within word most next (Some content) =
    if nat_le (length content) most then next content else Some (refusing (Refusal.TooLong word))

-- Goes on with the content of a file, where that is told.
abbrev pub with_file : {A : Type 0} → (List ℕ → Option (List ℕ)) → FileWord → ℕ → (List ℕ → Option (Answer A)) → Option (Answer A)
with_file told file most next = within file.word most next (told file.name)

-- The most bytes of a policy file.
abbrev pub most_policy : ℕ
most_policy = 1048576

-- Goes on with the lines of the policy that a word names, or gives its fault.
abbrev pub with_lines : {A : Type 0} → ℕ → (List LineParts → Option (Answer A)) → Result (List LineParts) PolicyFault → Option (Answer A)
with_lines word next (Err fault) = Some (refusing (Refusal.PolicyFault word fault))
with_lines word next (Ok lines) = next lines

-- The same of a content.
abbrev pub with_content : {A : Type 0} → ℕ → (List LineParts → Option (Answer A)) → List ℕ → Option (Answer A)
with_content word next content = with_lines word next (policy_meaning content)

-- Goes on with the lines of a policy file.
abbrev pub with_policy : {A : Type 0} → (List ℕ → Option (List ℕ)) → FileWord → (List LineParts → Option (Answer A)) → Option (Answer A)
with_policy told file next = with_file told file most_policy (with_content file.word next)

-- Goes on where no count passes the limit, and else names the line at which the first does.
abbrev pub unless_over : {A : Type 0} → ℕ → Direction → Answer A → Option ℕ → Answer A
unless_over word direction next None = next
unless_over word direction next (Some line) = refusing (Refusal.EntryLimit word direction line None)

-- Goes on where a policy that a word names stays within the limit while it is cut in a direction.
abbrev pub with_limit : {A : Type 0} → ℕ → ℕ → Direction → List LineParts → Answer A → Answer A
with_limit word limit direction lines next = unless_over word direction next (first_over limit (steps direction lines))

-- What was sent, and then the lines that are left, are all lines; how it ends is still to come.
pub record IsSent {A : Type 0} (whole left : Answer A) (before now : Option (List ℕ)) : Type 0 where
  pub ended : whole.ended ≡ left.ended
  pub sent : List (List ℕ)
  pub lines : whole.lines ≡ sent ++ left.lines
  pub gained : Gains before now (text_of sent)
