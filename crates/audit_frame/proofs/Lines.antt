-- Lines that are written one after another.
use Rattle.std.proofs.Common.{◌≡◌, ℕ, ◌+◌, ◌<◌, List, [], ◌∷◌, ◌++◌, drop, get_or, length, refl, sym, ◌∙◌, ap, append_assoc}
use Rattle.std.proofs.lemmas.List.{append-nil, drop_more}
use Rattle.std.proofs.lemmas.Option.{slice_get-get_or}
use Rattle.std.specs.Prelude.{Option, IfSome, slice_get, Result}
use Rattle.pair_io.specs.Gains.{Gains, GainsPrefix}
use Rattle.pair_io.proofs.Gains.{Gains-nothing, Gains-then, GainsPrefix-second}
use Rattle.audit_frame.specs.declared.refusal.Refusal.{Refusal}
use Rattle.audit_frame.specs.Answer.{Answer, IsSent, text_of, with_line}
use Rattle.audit_frame.specs.Ends.{IsAnswer}

-- The line at an index stands before those behind it.
pub text_from : (lines : List (List ℕ)) (i : ℕ) → i < length lines
    → text_of (drop i lines) ≡ get_or lines i [] ++ text_of (drop (i + 1) lines)
text_from lines i within = rw (drop_more lines i [] within) refl

-- What holds of the line at an index, where it is there.
pub at_index : (P : List ℕ → Type 0) (lines : List (List ℕ)) (i : ℕ) → i < length lines
    → IfSome (slice_get lines i) P → P (get_or lines i [])
at_index P lines i within here = rw (slice_get-get_or lines i [] within) at here

-- The text of lines one after another.
pub text_of-append : (first second : List (List ℕ)) → text_of (first ++ second) ≡ text_of first ++ text_of second
text_of-append [] second = refl
text_of-append (line ∷ first) second =
    ap (λ (rest : List ℕ). line ++ rest) (text_of-append first second) ∙ sym (append_assoc line (text_of first) (text_of second))

pub IsSent-none : {A : Type 0} (whole : Answer A) (before : Option (List ℕ)) → IsSent whole whole before before
IsSent-none whole before = record { ended = refl; sent = []; lines = refl; gained = Gains-nothing before before refl }

-- A line was sent before the others.
pub IsSent-line : {A : Type 0} (others : Answer A) (line : List ℕ) (before now : Option (List ℕ)) → Gains before now line
    → IsSent (with_line line others) others before now
IsSent-line others line before now gained = record { ended = refl; sent = line ∷ []; lines = refl; gained = rw append-nil gained }

-- One part after another.
pub IsSent-then : {A : Type 0} (whole middle left : Answer A) (before between now : Option (List ℕ))
    → IsSent whole middle before between → IsSent middle left between now → IsSent whole left before now
IsSent-then whole middle left before between now first second = record {
  ended = first.ended ∙ second.ended;
  sent = first.sent ++ second.sent;
  lines = first.lines ∙ (ap (λ (t : List (List ℕ)). first.sent ++ t) second.lines ∙ sym (append_assoc first.sent second.sent left.lines));
  gained = rw text_of-append (Gains-then before between now (text_of first.sent) (text_of second.sent) first.gained second.gained);
}

-- The text of what was sent, and then of what is left, is the whole text.
IsSent-text : {A : Type 0} {whole left : Answer A} {before now : Option (List ℕ)} (so_far : IsSent whole left before now)
    → text_of whole.lines ≡ text_of so_far.sent ++ text_of left.lines
IsSent-text {A} {whole} {left} so_far = ap text_of so_far.lines ∙ text_of-append so_far.sent left.lines

-- What is left was written to its end, so all was.
pub IsSent-answer : {A : Type 0} (whole left : Answer A) (before between now : Option (List ℕ)) (ended : Result A Refusal)
    → IsSent whole left before between → IsAnswer left between now ended → IsAnswer whole before now ended
IsSent-answer whole left before between now ended so_far ends = record {
  ended_is = ends.ended_is ∙ sym so_far.ended;
  all_lines = rw (IsSent-text so_far) (Gains-then before between now (text_of so_far.sent) (text_of left.lines) so_far.gained ends.all_lines);
}

-- A prefix of what is left, behind what was sent.
pub IsSent-prefix : {A : Type 0} (whole left : Answer A) (before between now : Option (List ℕ)) → IsSent whole left before between
    → GainsPrefix between now (text_of left.lines) → GainsPrefix before now (text_of whole.lines)
IsSent-prefix whole left before between now so_far prefix =
    rw (IsSent-text so_far) (GainsPrefix-second (text_of so_far.sent) so_far.gained prefix)
