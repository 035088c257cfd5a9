-- A limit that is asked before a further file is read.
use Rattle.std.specs.Prelude.{ℕ, List, Option, Some, None}
use Rattle.sel_box.specs.declared.packet.Direction.{Direction}
use Rattle.spd_cut.specs.Steps.{first_over, steps}
use Rattle.spd_line.specs.declared.line.LineParts.{LineParts}
use Rattle.audit_frame.specs.declared.refusal.Refusal.{Refusal}
use Rattle.audit_frame.specs.Answer.{Answer, refusing}

-- Goes on, maybe with files that aren't told, where no count passes the limit, and else names the line at which the first does.
abbrev pub unless_over_before : {A : Type 0} → ℕ → Direction → Option (Answer A) → Option ℕ → Option (Answer A)
unless_over_before word direction next None = next
unless_over_before word direction next (Some line) = Some (refusing (Refusal.EntryLimit word direction line None))

-- Goes on where a policy that a word names stays within the limit while it is cut in a direction.
abbrev pub with_limit_before : {A : Type 0} → ℕ → ℕ → Direction → List LineParts → Option (Answer A) → Option (Answer A)
with_limit_before word limit direction lines next = unless_over_before word direction next (first_over limit (steps direction lines))
