-- One step of a loop that cuts.
use Rattle.std.proofs.Common.{◌≡◌, ℕ, ◌+◌, ◌<◌, ◌≤◌, Bool, true, false, nat_lt, ◌||◌, cond, List, [], ◌∷◌, ◌++◌, length, drop, get_or, map, filter}
use Rattle.std.proofs.Common.{refl, sym, ap, ◌∙◌, append_assoc, arith}
use Rattle.std.proofs.lemmas.Bool.{false≢true}
use Rattle.std.proofs.lemmas.List.{append-nil, drop_all, length-append, length-map, map-append}
use Rattle.std.proofs.lemmas.List.Elements.{filter-append}
use Rattle.std.proofs.lemmas.List.Sums.{count_by-le-length, length-filter}
use Rattle.std.proofs.lemmas.Bool.Decides.{nat_tests}
use Rattle.sel_region.specs.Cutting.{cut_each}
use Rattle.sel_region.proofs.Loops.{drop_item}
use Rattle.sel_blocks.specs.Joined.{joined}
use Rattle.spd_cut.specs.Steps.{counts_of, passes}

-- The same where each item that passes a test makes one, and the others make none.
pub kept_next : {X Y : Type 0} (test : X → Bool) (f : X → Y) (made : List Y) (xs : List X) (i : ℕ) (x : X) →
    i < length xs → x ≡ get_or xs i x → test x ≡ true →
    (made ++ f x ∷ []) ++ map f (filter test (drop (i + 1) xs)) ≡ made ++ map f (filter test (drop i xs))
kept_next test f made xs i x below is passes =
    append_assoc made (f x ∷ []) (map f (filter test (drop (i + 1) xs)))
    ∙ ap (λ here. made ++ map f (cond here (x ∷ filter test (drop (i + 1) xs)) (filter test (drop (i + 1) xs)))) (sym passes)
    ∙ sym (drop_item (λ rest. made ++ map f (filter test rest)) xs i x below is)

pub dropped_next : {X Y : Type 0} (test : X → Bool) (f : X → Y) (made : List Y) (xs : List X) (i : ℕ) (x : X) →
    i < length xs → x ≡ get_or xs i x → test x ≡ false →
    made ++ map f (filter test (drop (i + 1) xs)) ≡ made ++ map f (filter test (drop i xs))
dropped_next test f made xs i x below is fails =
    ap (λ here. made ++ map f (cond here (x ∷ filter test (drop (i + 1) xs)) (filter test (drop (i + 1) xs)))) (sym fails)
    ∙ sym (drop_item (λ rest. made ++ map f (filter test rest)) xs i x below is)

pub kept_end : {X Y : Type 0} (test : X → Bool) (f : X → Y) (made : List Y) (xs : List X) (i : ℕ) → length xs ≤ i →
    made ++ map f (filter test (drop i xs)) ≡ made
kept_end test f made xs i past =
    ap (λ rest. made ++ map f (filter test rest)) (drop_all i xs past) ∙ append-nil made

-- The same for a block of items, and the blocks behind it.
pub kept_block : {X Y : Type 0} (test : X → Bool) (f : X → Y) (made : List Y) (blocks : List (List X)) (i : ℕ) (block : List X) →
    i < length blocks → block ≡ get_or blocks i block →
    (made ++ map f (filter test block)) ++ map f (filter test (joined (drop (i + 1) blocks)))
    ≡ made ++ map f (filter test (joined (drop i blocks)))
kept_block test f made blocks i block below is =
    append_assoc made (map f (filter test block)) (map f (filter test (joined (drop (i + 1) blocks))))
    ∙ ap (λ kept. made ++ kept)
    (sym (ap (map f) (filter-append test block (joined (drop (i + 1) blocks)))
    ∙ map-append f (filter test block) (filter test (joined (drop (i + 1) blocks)))))
    ∙ sym (drop_item (λ rest. made ++ map f (filter test (joined rest))) blocks i block below is)

-- At most all are kept.
pub few_kept : {X Y : Type 0} (test : X → Bool) (f : X → Y) (made : List Y) (xs : List X) →
    length (made ++ map f (filter test xs)) ≤ length made + length xs
few_kept test f made xs =
    omega (arith, length-append made (map f (filter test xs)), length-map (filter test xs) f, length-filter test xs, count_by-le-length test xs)

-- Neither test passes where not one of both does.
pub both_false : (x y : Bool) → (x || y) ≡ false → (x ≡ false) × (y ≡ false)
both_false true y e = absurd (false≢true (sym e))
both_false false y e = (refl, e)

-- A count within the limit doesn't pass it.
pub not_below : (limit n : ℕ) → n ≤ limit → nat_lt limit n ≡ false
not_below limit n within = grind (arith, nat_tests)

-- A step of the cuts out of all pieces: whether a count passes the limit.
pub passes_next : {R : Type 0} (minus : R → R → List R) (limit done : ℕ) (pieces earlier : List R) (i : ℕ) (region : R) →
    i < length earlier → region ≡ get_or earlier i region → done + length pieces ≤ limit →
    passes limit (counts_of minus done (cut_each minus pieces region) (drop (i + 1) earlier)) ≡ passes limit (counts_of minus done pieces (drop i earlier))
passes_next minus limit done pieces earlier i region below is within =
    ap (λ here. here || passes limit (counts_of minus done (cut_each minus pieces region) (drop (i + 1) earlier)))
    (sym (not_below limit (done + length pieces) within))
    ∙ sym (drop_item (λ rest. passes limit (counts_of minus done pieces rest)) earlier i region below is)
