-- One step, and the end, of a loop over a list.
use Rattle.std.proofs.Common.{◌≡◌, ℕ, ◌+◌, ◌<◌, ◌≤◌, List, ◌∷◌, ◌++◌, length, drop, get_or, flat_map, sym, ap, ◌∙◌, append_assoc}
use Rattle.std.proofs.lemmas.List.{append-nil, at_drop_more, drop_all}

-- the item at an index comes first of what is left from there on
pub drop_item : {X Y : Type 0} (F : List X → Y) (xs : List X) (i : ℕ) (x : X) → i < length xs → x ≡ get_or xs i x →
    F (drop i xs) ≡ F (x ∷ drop (i + 1) xs)
drop_item F xs i x below is = at_drop_more F xs i x below ∙ ap (λ y. F (y ∷ drop (i + 1) xs)) (sym is)

-- what was made of the items before, and what is made of those from an index on, is made of all
pub flat_map_next : {X Y : Type 0} (f : X → List Y) (made : List Y) (xs : List X) (i : ℕ) (x : X) →
    i < length xs → x ≡ get_or xs i x →
    (made ++ f x) ++ flat_map f (drop (i + 1) xs) ≡ made ++ flat_map f (drop i xs)
flat_map_next f made xs i x below is =
    append_assoc made (f x) (flat_map f (drop (i + 1) xs))
    ∙ ap (λ rest. made ++ rest) (sym (drop_item (flat_map f) xs i x below is))

-- where none is left, no more is made
pub flat_map_end : {X Y : Type 0} (f : X → List Y) (made : List Y) (xs : List X) (i : ℕ) → length xs ≤ i →
    made ++ flat_map f (drop i xs) ≡ made
flat_map_end f made xs i past =
    ap (λ rest. made ++ flat_map f rest) (drop_all i xs past) ∙ append-nil made
