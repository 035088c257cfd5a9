-- The lines of a text that is cut at its first LF.
use Rattle.std.proofs.Common.{◌≡◌, ℕ, suc, ◌+◌, ◌<◌, ◌≤◌, Bool, true, false, cond, ltb, List, [], ◌∷◌, length, map, take, drop, Some, None, refl}
use Rattle.std.proofs.Common.{ap, ◌∙◌, add-one, arith}
use Rattle.std.specs.Prelude.{option_map}
use Rattle.std.proofs.lemmas.Bool.{ltb-false, ltb-true}
use Rattle.std.proofs.lemmas.List.{drop_all, take_all}
use Rattle.sel_text.specs.Lines.{before_feed}
use Rattle.sel_text.specs.Parts.{around, cut}
use Rattle.sel_text.proofs.Lines.{before_feed-line, feed_place, lines-cut}
use Rattle.ts_wire.specs.Proposal.{texts_of}

record IsCut (test : Bool) (place : ℕ) (text first rest : List ℕ) : Type 0 where
  found : test ≡ true
  before : take place text ≡ first
  behind : drop (place + 1) text ≡ rest

cut_some : (test : Bool) (place : ℕ) (text first rest : List ℕ) → option_map (around text) (cond test (Some place) None) ≡ Some (first, rest)
    → IsCut test place text first rest
cut_some true place text first rest h =
    let parts : around text place ≡ (first, rest) = cc in
    record { found = refl; before = ap (λ (p : List ℕ × List ℕ). p.0) parts; behind = ap (λ (p : List ℕ × List ℕ). p.1) parts }
cut_some false place text first rest h = absurd cc

cut_none : (test : Bool) (place : ℕ) (text : List ℕ) → option_map (around text) (cond test (Some place) None) ≡ None → test ≡ false
cut_none true place text h = absurd cc
cut_none false place text h = refl

texts-first : (text : List ℕ) → 0 < length text → texts_of text ≡ take (feed_place text) text ∷ texts_of (drop (suc (feed_place text)) text)
texts-first text some =
    ap (λ (lines : List (List ℕ)). map before_feed lines) (lines-cut text some)
    ∙ ap (λ (line : List ℕ). line ∷ texts_of (drop (suc (feed_place text)) text)) (before_feed-line text)

-- the first line, and the others
pub texts-cut : (text first rest : List ℕ) → cut 10 text ≡ Some (first, rest) → texts_of text ≡ first ∷ texts_of rest
texts-cut text first rest h =
    let parts = cut_some (ltb (feed_place text) (length text)) (feed_place text) text first rest h in
    let within : feed_place text < length text = ltb-true (feed_place text) (length text) parts.found in
    let behind : drop (suc (feed_place text)) text ≡ rest = rw (← add-one) parts.behind in
    texts-first text (omega arith)
    ∙ (ap (λ (line : List ℕ). line ∷ texts_of (drop (suc (feed_place text)) text)) parts.before
    ∙ ap (λ (xs : List ℕ). first ∷ texts_of xs) behind)

-- a text without LF is one line
pub texts-uncut : (text : List ℕ) → 0 < length text → cut 10 text ≡ None → texts_of text ≡ text ∷ []
texts-uncut text some h =
    let past : length text ≤ feed_place text = ltb-false (feed_place text) (length text) (cut_none (ltb (feed_place text) (length text))
    (feed_place text) text h) in
    texts-first text some
    ∙ (ap (λ (line : List ℕ). line ∷ texts_of (drop (suc (feed_place text)) text)) (take_all (feed_place text) text past)
    ∙ ap (λ (xs : List ℕ). text ∷ texts_of xs) (drop_all (suc (feed_place text)) text (omega arith)))

pub some_texts : (text : List ℕ) → 0 < length text → 0 < length (texts_of text)
some_texts text some = let e = ap (λ (xs : List (List ℕ)). length xs) (texts-first text some) in omega arith

pub uncut_not_two : (text : List ℕ) → cut 10 text ≡ None → length (texts_of text) ≡ 2 → ⊥
uncut_not_two [] h two = omega arith
uncut_not_two (byte ∷ bytes) h two =
    let one = ap (λ (xs : List (List ℕ)). length xs) (texts-uncut (byte ∷ bytes) (omega arith) h) in
    omega arith
