-- A run that came to an end of the command's own went past each file and each limit.
use Rattle.std.proofs.Common.{◌≡◌, ℕ, Bool, true, false, List, length, nat_le, if◌then◌else◌, Option, Some, None, Result, Ok, Err, refl, arith}
use Rattle.sel_box.specs.declared.packet.Direction.{Direction}
use Rattle.spd_cut.specs.Steps.{first_over, steps}
use Rattle.spd_file.specs.declared.fault.PolicyFault.{PolicyFault}
use Rattle.spd_file.specs.Policy.{policy_meaning}
use Rattle.spd_line.specs.declared.line.LineParts.{LineParts}
use Rattle.audit_frame.specs.declared.refusal.Refusal.{Refusal}
use Rattle.audit_frame.specs.Answer.{Answer, most_policy, refusing, unless_over, with_file, with_limit, with_lines, with_policy}
use Rattle.audit_frame.specs.Ends.{Ends, IsAnswer}
use Rattle.audit_frame.specs.Words.{FileWord}

-- A refusal is no end of the command's own.
unrefused : {A : Type 0} {before now : Option (List ℕ)} (refusal : Refusal) (end : A) → IsAnswer (refusing refusal) before now (Ok end) → ⊥
unrefused refusal end is = grind (arith, is.ended_is)

within_most : {A : Type 0} (fits : Bool) (word : ℕ) (found : Option (Answer A)) (before now : Option (List ℕ)) (end : A)
    → Ends (if fits then found else Some (refusing (Refusal.TooLong word))) before now (Ok end) → Ends found before now (Ok end)
within_most true word found before now end ends = ends
within_most false word found before now end ends = absurd (unrefused (Refusal.TooLong word) end ends)

-- The content of the file was gone on with.
pub Ends-content : {A : Type 0} (told : List ℕ → Option (List ℕ)) (file : FileWord) (most : ℕ) (content : List ℕ) (next : List ℕ → Option (Answer A))
    (before now : Option (List ℕ)) (end : A) → told file.name ≡ Some content → Ends (with_file told file most next) before now (Ok end)
    → Ends (next content) before now (Ok end)
Ends-content told file most content next before now end tells ends =
    within_most (nat_le (length content) most) file.word (next content) before now end (rw tells at ends)

-- The lines of a policy were gone on with.
pub record HasLines {A : Type 0} (content : List ℕ) (next : List LineParts → Option (Answer A)) (before now : Option (List ℕ)) (end : A) : Type 0 where
  pub lines : List LineParts
  pub policy : policy_meaning content ≡ Ok lines
  pub ends : Ends (next lines) before now (Ok end)

by_meaning : {A : Type 0} (word : ℕ) (content : List ℕ) (meaning : Result (List LineParts) PolicyFault) (next : List LineParts → Option (Answer A))
    (before now : Option (List ℕ)) (end : A) → policy_meaning content ≡ meaning → Ends (with_lines word next meaning) before now (Ok end)
    → HasLines content next before now end
by_meaning word content (Err fault) next before now end is ends = absurd (unrefused (Refusal.PolicyFault word fault) end ends)
by_meaning word content (Ok lines) next before now end is ends = record { lines = lines; policy = is; ends = ends }

pub Ends-lines : {A : Type 0} (told : List ℕ → Option (List ℕ)) (file : FileWord) (content : List ℕ) (next : List LineParts → Option (Answer A))
    (before now : Option (List ℕ)) (end : A) → told file.name ≡ Some content → Ends (with_policy told file next) before now (Ok end)
    → HasLines content next before now end
Ends-lines told file content next before now end tells ends =
    by_meaning file.word content (policy_meaning content) next before now end refl
    (Ends-content told file most_policy content _ before now end tells ends)

-- A limit was not passed.
under_limit : {A : Type 0} (word : ℕ) (direction : Direction) (next : Answer A) (over : Option ℕ) (before now : Option (List ℕ)) (end : A)
    → Ends (Some (unless_over word direction next over)) before now (Ok end) → Ends (Some next) before now (Ok end)
under_limit word direction next None before now end ends = ends
under_limit word direction next (Some line) before now end ends = absurd (unrefused (Refusal.EntryLimit word direction line None) end ends)

pub Ends-under : {A : Type 0} (word limit : ℕ) (direction : Direction) (lines : List LineParts) (next : Answer A) (before now : Option (List ℕ)) (end : A)
    → Ends (Some (with_limit word limit direction lines next)) before now (Ok end) → Ends (Some next) before now (Ok end)
Ends-under word limit direction lines next before now end ends =
    under_limit word direction next (first_over limit (steps direction lines)) before now end ends
