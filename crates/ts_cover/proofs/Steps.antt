-- A step of a loop that makes a list from each item of another.
use Rattle.std.proofs.Common.{◌≡◌, ℕ, ◌+◌, ◌<◌, List, ◌++◌, length, drop, flat_map, get_or}
use Rattle.std.proofs.lemmas.List.{get_or_default}
use Rattle.sel_region.proofs.Loops.{flat_map_next}

pub flat_map_step : {X Y : Type 0} (f : X → List Y) (made : List Y) (xs : List X) (i : ℕ) (d : X) → i < length xs →
    (made ++ f (get_or xs i d)) ++ flat_map f (drop (i + 1) xs) ≡ made ++ flat_map f (drop i xs)
flat_map_step f made xs i d below = flat_map_next f made xs i (get_or xs i d) below (get_or_default xs i d (get_or xs i d) below)
