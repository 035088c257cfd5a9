-- The first line of a text, by the place of its LF.
use Rattle.std.proofs.Common.{◌≡◌, ℕ, suc, ◌+◌, ◌<◌, ◌≤◌, Bool, true, false, cond, List, ◌∷◌, length, take, drop, nat_lt, Some, None, refl, sym, ap, ap₂, ◌∙◌}
use Rattle.std.proofs.Common.{arith}
use Rattle.std.specs.Prelude.{position}
use Rattle.std.proofs.lemmas.Bool.Decides.{nat_tests}
use Rattle.std.proofs.lemmas.List.{drop_all, take_all}
use Rattle.sel_text.specs.Lines.{lines_of}
use Rattle.sel_text.proofs.Lines.{feed_place, is_feed, lines-cut}

place_some : (place end len : ℕ) → cond (nat_lt place len) (Some place) None ≡ Some end → (place ≡ end) × (place < len)
place_some place end len found = go (nat_lt place len) refl found
  where
    go : (b : Bool) → nat_lt place len ≡ b → cond b (Some place) None ≡ Some end → (place ≡ end) × (place < len)
    go true below same = (cc, grind (arith, nat_tests))
    go false past same = absurd cc

place_none : (place len : ℕ) → cond (nat_lt place len) (Some place) None ≡ None → len ≤ place
place_none place len none = go (nat_lt place len) refl none
  where
    go : (b : Bool) → nat_lt place len ≡ b → cond b (Some place) None ≡ None → len ≤ place
    go true below same = absurd cc
    go false past same = grind (arith, nat_tests)

-- It ends with the first LF.
pub first_line-ended : (text : List ℕ) (end : ℕ) → position is_feed text ≡ Some end
    → lines_of text ≡ take (end + 1) text ∷ lines_of (drop (end + 1) text)
first_line-ended text end found =
    let at = place_some (feed_place text) end (length text) found in
    let next : suc (feed_place text) ≡ end + 1 = omega (arith, at.0) in
    lines-cut text (omega (arith, at.1))
    ∙ ap (λ (n : ℕ). take n text ∷ lines_of (drop n text)) next

-- Without an LF it ends with the text.
pub first_line-last : (text : List ℕ) → 0 < length text → position is_feed text ≡ None
    → lines_of text ≡ take (length text) text ∷ lines_of (drop (length text) text)
first_line-last text some none =
    let past = place_none (feed_place text) (length text) none in
    lines-cut text some
    ∙ ap₂ (λ (line rest : List ℕ). line ∷ lines_of rest)
    (take_all (suc (feed_place text)) text (omega (arith, past)) ∙ sym (take_all (length text) text (omega arith)))
    (drop_all (suc (feed_place text)) text (omega (arith, past)) ∙ sym (drop_all (length text) text (omega arith)))
