-- Which points the products of two lists of regions have, what holds of each product, and how many there are.
use Rattle.std.proofs.Common.{◌≡◌, ◌*◌, Bool, true, false, ◌&&◌, ◌||◌, length, List, [], ◌∷◌, map, flat_map, refl, sym, ap, ap₂, ◌∙◌, arith}
use Rattle.std.proofs.Math.Nat.{suc-mul, zero-mul}
use Rattle.std.proofs.lemmas.List.{length-append, length-map}
use Rattle.std.proofs.lemmas.List.Elements.{All-append, All-head, All-map, All-nil, All-tail, All-weaker}
use Rattle.std.proofs.lemmas.List.Folds.{list_any-append}
use Rattle.std.specs.List.{All, list_any}
use Rattle.sel_region.specs.declared.pair.Pair.{Pair}
use Rattle.sel_region.specs.Pair.{pair_has, pair_of}
use Rattle.spd_line.specs.LineBoxes.{products}

pub list_any-map : {X Y : Type 0} (test : Y → Bool) (f : X → Y) (xs : List X) →
    list_any test (map f xs) ≡ list_any (λ x. test (f x)) xs
list_any-map test f [] = refl
list_any-map test f (x ∷ xs) = ap (λ rest. test (f x) || rest) (list_any-map test f xs)

-- where each item is made a list, of which some item passes exactly where the item did
pub list_any-flat_map : {X Y : Type 0} (test : Y → Bool) (f : X → List Y) (whole : X → Bool) →
    ((x : X) → list_any test (f x) ≡ whole x) →
    (xs : List X) → list_any test (flat_map f xs) ≡ list_any whole xs
list_any-flat_map test f whole same [] = refl
list_any-flat_map test f whole same (x ∷ xs) =
    list_any-append test (f x) (flat_map f xs)
    ∙ ap₂ (λ a b. a || b) (same x) (list_any-flat_map test f whole same xs)

-- a test beside which another stands that doesn't look at the item
pub list_any-and_left : {X : Type 0} (kept : Bool) (test : X → Bool) (xs : List X) →
    list_any (λ x. kept && test x) xs ≡ (kept && list_any test xs)
list_any-and_left true test [] = refl
list_any-and_left false test [] = refl
list_any-and_left true test (x ∷ xs) = ap (λ rest. test x || rest) (list_any-and_left true test xs)
list_any-and_left false test (x ∷ xs) = list_any-and_left false test xs

list_any-and_right : {X : Type 0} (kept : Bool) (test : X → Bool) (xs : List X) →
    list_any (λ x. test x && kept) xs ≡ (list_any test xs && kept)
list_any-and_right kept test [] = refl
list_any-and_right kept test (x ∷ xs) =
    ap (λ rest. (test x && kept) || rest) (list_any-and_right kept test xs)
    ∙ either (test x) (list_any test xs)
  where
    either : (here later : Bool) → ((here && kept) || (later && kept)) ≡ ((here || later) && kept)
    either here later = grind arith

-- some product has a pair of points exactly where some region of each list has its point
pub products-has : {R S P Q : Type 0} (has_first : R → P → Bool) (has_second : S → Q → Bool) (p : P × Q) (firsts : List R) (seconds : List S) →
    list_any (λ r. pair_has has_first has_second r p) (products firsts seconds)
    ≡ (list_any (λ r. has_first r p.0) firsts && list_any (λ r. has_second r p.1) seconds)
unfolding products
products-has {R} {S} has_first has_second p firsts seconds =
    list_any-flat_map (λ r. pair_has has_first has_second r p) (λ first. map (λ second. pair_of first second) seconds)
    (λ first. has_first first p.0 && list_any (λ r. has_second r p.1) seconds)
    (λ first. list_any-map (λ r. pair_has has_first has_second r p) (λ (second : S). pair_of first second) seconds
    ∙ list_any-and_left (has_first first p.0) (λ r. has_second r p.1) seconds)
    firsts
    ∙ list_any-and_right (list_any (λ r. has_second r p.1) seconds) (λ r. has_first r p.0) firsts

pub All-flat_map : {X Y : Type 0} (P : Y → Type 0) (f : X → List Y) → ((x : X) → All P (f x)) →
    (xs : List X) → All P (flat_map f xs)
All-flat_map P f each [] = All-nil P
All-flat_map P f each (x ∷ xs) = All-append P (f x) (flat_map f xs) (each x) (All-flat_map P f each xs)

-- what holds of each region of a list holds of its part of each product
pub All-products : {R S : Type 0} (First : R → Type 0) (Second : S → Type 0) (firsts : List R) (seconds : List S) →
    All First firsts → All Second seconds → All (λ (r : Pair R S). First r.first × Second r.second) (products firsts seconds)
unfolding products
All-products First Second [] seconds of_first of_second = All-nil _
All-products {R} {S} First Second (first ∷ firsts) seconds of_first of_second =
    let Both : Pair R S → Type 0 = λ r. First r.first × Second r.second in
    let here : First first = All-head First first firsts of_first in
    All-append Both (map (λ second. pair_of first second) seconds) (products firsts seconds)
    (All-map Both (λ second. pair_of first second) seconds
    (All-weaker Second (λ second. First first × Second second) (λ second of. (here, of)) seconds of_second))
    (All-products First Second firsts seconds (All-tail First first firsts of_first) of_second)

-- there are as many as the product of the counts
pub length-products : {R S : Type 0} (firsts : List R) (seconds : List S) →
    length (products firsts seconds) ≡ length firsts * length seconds
unfolding products
length-products [] seconds = sym (zero-mul (length seconds))
length-products {R} {S} (first ∷ firsts) seconds =
    let here = length-map seconds (λ (second : S). pair_of first second) in
    let all = length-append (map (λ (second : S). pair_of first second) seconds) (products firsts seconds) in
    let later : length (products firsts seconds) ≡ length firsts * length seconds = length-products firsts seconds in
    omega (arith, all, here, later, suc-mul (length firsts) (length seconds))
