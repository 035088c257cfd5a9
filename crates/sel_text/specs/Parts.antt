-- A text cut at separators.
use Rattle.std.specs.Prelude.{ℕ, ◌+◌, ◌==◌, List, [], ◌∷◌, take, drop, position, Option, Some, None, option_map, option_and_then}
use Rattle.std.specs.Borrow.{Bor}
use Rattle.std.specs.List.{slice_split}

-- what stands before a place and after it
abbrev pub around : List ℕ → ℕ → List ℕ × List ℕ
around text at = (take at text, drop (at + 1) text)

-- what stands before the first separator and after it, if there is one
abbrev pub cut : ℕ → List ℕ → Option (List ℕ × List ℕ)
cut separator text = option_map (around text) (position (λ byte. byte == separator) text)

-- two texts that are lent
abbrev pub halves_now : Bor (List ℕ) × Bor (List ℕ) → List ℕ × List ℕ
halves_now texts = (texts.0.now, texts.1.now)

-- what stands between separators, in order: one part more than there are separators
abbrev pub parts : ℕ → List ℕ → List (List ℕ)
parts separator text = slice_split (λ byte. byte == separator) text

-- what the parts write, if each writes something
abbrev pub each : {W : Type 0} → (List ℕ → Option W) → List (List ℕ) → Option (List W)
each read [] = Some []
each read (part ∷ more) =
    option_and_then (λ first. option_map (λ rest. first ∷ rest) (each read more)) (read part)

-- what two texts write, if both write something
abbrev pub pair : {W Y : Type 0} → Option W → Option Y → Option (W × Y)
pair None second = None
pair (Some w) second = option_map (λ y. (w, y)) second
