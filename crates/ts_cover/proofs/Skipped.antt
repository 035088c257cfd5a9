-- Items of a list that are passed over: what is made of the list stays the same without them.
use Rattle.std.proofs.Common.{◌≡◌, ℕ, zero, suc, ◌+◌, ◌<◌, ◌≤◌, ◌⊎◌, inl, inr, List, [], ◌∷◌, length, drop, get_or}
use Rattle.std.proofs.Common.{refl, sym, ap, ◌∙◌, arith}
use Rattle.std.specs.List.{AllWithin}
use Rattle.std.proofs.lemmas.Bool.{cases_lt}
use Rattle.std.proofs.lemmas.List.{drop_all}
use Rattle.sel_region.proofs.Loops.{drop_item}

drop-nil : {A : Type 0} (n : ℕ) → ◌≡◌ {A = List A} (drop n []) []
drop-nil zero = refl
drop-nil (suc n) = refl

-- from an index on it is what is made from another on, where each item between them is passed over
pub skipped : {A B : Type 0} (made : List A → B) (Passed : A → Type 0) →
    ((x : A) (xs : List A) → Passed x → made (x ∷ xs) ≡ made xs) →
    (xs : List A) (from index : ℕ) → from ≤ index → AllWithin Passed xs from index → made (drop from xs) ≡ made (drop index xs)
skipped made Passed step [] from index after passed = ap made (drop-nil from ∙ sym (drop-nil index))
skipped made Passed step (x ∷ xs) zero zero after passed = refl
skipped made Passed step (x ∷ xs) zero (suc index) after passed =
    step x xs (passed 0 x (omega arith) (omega arith))
    ∙ skipped made Passed step xs zero index (omega arith) (λ k d low high. passed (suc k) d (omega arith) (omega arith))
skipped made Passed step (x ∷ xs) (suc from) zero after passed = absurd (omega arith)
skipped made Passed step (x ∷ xs) (suc from) (suc index) after passed =
    skipped made Passed step xs from index (omega arith) (λ k d low high. passed (suc k) d (omega arith) (omega arith))

-- up to the next that isn't
pub skipped_to : {A B : Type 0} (made : List A → B) (Passed : A → Type 0) →
    ((x : A) (xs : List A) → Passed x → made (x ∷ xs) ≡ made xs) →
    (xs : List A) (from index : ℕ) (x : A) → from ≤ index → index < length xs → x ≡ get_or xs index x → AllWithin Passed xs from index →
    made (drop from xs) ≡ made (x ∷ drop (index + 1) xs)
skipped_to made Passed step xs from index x after within is passed =
    skipped made Passed step xs from index after passed ∙ drop_item made xs index x within is

-- or to the end, where all are
pub skipped_all : {A B : Type 0} (made : List A → B) (Passed : A → Type 0) →
    ((x : A) (xs : List A) → Passed x → made (x ∷ xs) ≡ made xs) →
    (xs : List A) (from : ℕ) → AllWithin Passed xs from (length xs) → made (drop from xs) ≡ made []
skipped_all made Passed step xs from passed = go (cases_lt from (length xs))
  where
    go : (from < length xs) ⊎ (length xs ≤ from) → made (drop from xs) ≡ made []
    go (inl below) =
        skipped made Passed step xs from (length xs) (omega arith) passed ∙ ap made (drop_all (length xs) xs (omega arith))
    go (inr past) = ap made (drop_all from xs past)
