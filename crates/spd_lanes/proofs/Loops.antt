-- One step, and the end, of a loop that makes an item of each.
use Rattle.std.proofs.Common.{◌≡◌, ℕ, ◌+◌, ◌<◌, ◌≤◌, List, [], ◌∷◌, ◌++◌, length, drop, get_or, map, sym, ap, ◌∙◌, append_assoc}
use Rattle.std.proofs.lemmas.List.{append-nil, drop_all}
use Rattle.sel_region.proofs.Loops.{drop_item}

-- What was made so far, and then what the items that are left make, is what all make.
pub map_next : {X Y : Type 0} (f : X → Y) (made : List Y) (xs : List X) (i : ℕ) (x : X) → i < length xs → x ≡ get_or xs i x →
    (made ++ f x ∷ []) ++ map f (drop (i + 1) xs) ≡ made ++ map f (drop i xs)
map_next f made xs i x below is =
    append_assoc made (f x ∷ []) (map f (drop (i + 1) xs))
    ∙ sym (drop_item (λ rest. made ++ map f rest) xs i x below is)

pub map_end : {X Y : Type 0} (f : X → Y) (made : List Y) (xs : List X) (i : ℕ) → length xs ≤ i → made ++ map f (drop i xs) ≡ made
map_end f made xs i past = ap (λ rest. made ++ map f rest) (drop_all i xs past) ∙ append-nil made
