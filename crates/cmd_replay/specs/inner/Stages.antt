-- What the stages of a run give: the policy is compiled, then the trace is replayed.
use Rattle.std.specs.Prelude.{◌≡◌, ℕ, Option, Some, None}
use Rattle.sel_box.specs.declared.packet.Direction.{Direction}
use Rattle.audit_frame.specs.declared.refusal.Refusal.{Refusal}

-- The policy that the word names passes the limit, in that direction and at that line.
pub record IsOverAt (word : ℕ) (found : Option (Direction × ℕ)) (at : ℕ) (direction : Direction) (line : ℕ) (edit : Option ℕ) : Type 0 where
  pub named : at ≡ word
  pub first : found ≡ Some (direction, line)
  pub no_edit : edit ≡ None

-- A policy wasn't compiled: it passes the limit, or there was no memory.
abbrev pub OverCauses : ℕ → Option (Direction × ℕ) → Refusal → Type 0
OverCauses word found (Refusal.EntryLimit at direction line edit) = IsOverAt word found at direction line edit
OverCauses word found Refusal.NoMemory = Unit {0}
OverCauses word found _ = ⊥

-- A replay is refused for the limit, at a trace line, or because it couldn't be written or there was no memory.
abbrev pub IsTraceRefusal : ℕ → Refusal → Type 0
IsTraceRefusal word (Refusal.EntryLimit at direction line (Some number)) = at ≡ word
IsTraceRefusal word Refusal.WriteFault = Unit {0}
IsTraceRefusal word Refusal.NoMemory = Unit {0}
IsTraceRefusal word _ = ⊥
