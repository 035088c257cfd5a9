-- The first bytes of a content, which were read so far.
use Rattle.std.proofs.Common.{◌≡◌, ℕ, ◌≤◌, List, ◌++◌, length, take, drop, append_assoc}
use Rattle.std.proofs.lemmas.List.{length-append, length-take-le, take-append-drop, drop-drop}
use Rattle.std.specs.Prelude.{Option, None, Some, IfSome}
use Rattle.pair_io.specs.Reading.{Gives}

-- these bytes, with the rest of the content behind them, are the content
abbrev pub IsPrefix : List ℕ → List ℕ → Type 0
IsPrefix bytes content = bytes ++ drop (length bytes) content ≡ content

-- the bytes of one more read make a longer prefix
pub IsPrefix-more :
    (known : Option (List ℕ)) (bytes piece : List ℕ) (n : ℕ) → n ≤ length piece → IfSome known (IsPrefix bytes) →
    IfSome known (Gives (length bytes) n piece) → IfSome known (IsPrefix (bytes ++ take n piece))
IsPrefix-more None bytes piece n fits prefix gives = tt
IsPrefix-more (Some content) bytes piece n fits prefix gives =
    let same : take n piece ≡ take n (drop (length bytes) content) = gives.bytes in
    rw (length-append, length-take-le n piece fits, ← drop-drop, append_assoc, same, take-append-drop) prefix
