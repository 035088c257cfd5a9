-- How many regions of a list have a point, and the laws of a kind of region from the fewest facts.
use Rattle.std.proofs.Common.{◌≡◌, ℕ, ◌+◌, ◌<◌, ◌≤◌, Bool, true, false, not, ◌&&◌, ◌||◌, cond, length, List, [], ◌∷◌, ◌++◌, map, get_or, Option, Some}
use Rattle.std.proofs.Common.{None, IsNone, ◌↔◌, MatchBool, sym, refl, ap, ◌∙◌, add_assoc, zero-add, arith}
use Rattle.std.specs.List.{AllPairs, All, list_any}
use Rattle.std.specs.Option.{option_map_or}
use Rattle.std.proofs.lemmas.Bool.{both_ways}
use Rattle.std.proofs.lemmas.List.Elements.{All-cons}
use Rattle.std.proofs.lemmas.List.Kept.{AllPairs-cons}
use Rattle.sel_region.specs.Region.{one_if, hits, some_has, AreApart, AllInside, SomeOutside, IsOrder, IsRegion}

pub hits-append : {R P : Type 0} (has : R → P → Bool) (xs ys : List R) (p : P) →
    hits has (xs ++ ys) p ≡ hits has xs p + hits has ys p
hits-append has [] ys p = sym (zero-add (hits has ys p))
hits-append has (x ∷ xs) ys p =
    ap (λ n. one_if (has x p) + n) (hits-append has xs ys p) ∙ sym (add_assoc (one_if (has x p)) (hits has xs p) (hits has ys p))

-- where each region is made another, of which a point q is tested as p is of the region, or fails
pub hits-map : {R S P Q : Type 0} (has : R → P → Bool) (has_made : S → Q → Bool) (make : R → S) (p : P) (q : Q) (keeps : Bool) →
    ((r : R) → has_made (make r) q ≡ (keeps && has r p)) →
    (xs : List R) → hits has_made (map make xs) q ≡ cond keeps (hits has xs p) 0
hits-map has has_made make p q true made [] = refl
hits-map has has_made make p q false made [] = refl
hits-map has has_made make p q true made (x ∷ xs) =
    rw (made x, hits-map has has_made make p q true made xs) refl
hits-map has has_made make p q false made (x ∷ xs) =
    rw (made x, hits-map has has_made make p q false made xs) refl

-- some region has the point where the count is 1, and none where it is 0
pub list_any-from_hits : {R P : Type 0} (has : R → P → Bool) (xs : List R) (p : P) (some : Bool) →
    hits has xs p ≡ one_if some → list_any (λ r. has r p) xs ≡ some
list_any-from_hits has [] p true counted = absurd (omega (arith, counted))
list_any-from_hits has [] p false counted = refl
list_any-from_hits has (x ∷ xs) p some counted = go (has x p) some (list_any-from_hits has xs p) counted
  where
    go : (here any : Bool) →
        ((later : Bool) → hits has xs p ≡ one_if later → list_any (λ r. has r p) xs ≡ later) →
        one_if here + hits has xs p ≡ one_if any → (here || list_any (λ r. has r p) xs) ≡ any
    go true true later e = refl
    go true false later e = absurd (omega (arith, e))
    go false any later e = later any (sym (zero-add (hits has xs p)) ∙ e)

-- no region has a point whose count is 0
pub all_lack-from_hits : {R P : Type 0} (has : R → P → Bool) (xs : List R) (p : P) →
    hits has xs p ≡ 0 → All (λ r. has r p ≡ false) xs
all_lack-from_hits has [] p none = λ k d below. absurd (omega arith)
all_lack-from_hits has (x ∷ xs) p none =
    All-cons (λ r. has r p ≡ false) x xs (go (has x p) none) (all_lack-from_hits has xs p (omega (arith, none)))
  where
    go : (here : Bool) → one_if here + hits has xs p ≡ 0 → here ≡ false
    go true e = absurd (omega (arith, e))
    go false e = refl

-- where no point counts twice, no two regions have a point in common
pub apart_from_hits : {R P : Type 0} (has : R → P → Bool) (xs : List R) →
    ((p : P) → hits has xs p ≤ 1) → AllPairs (AreApart has) xs
apart_from_hits has [] once = λ i j d low high. absurd (omega arith)
apart_from_hits {R} {P} has (x ∷ xs) once =
    AllPairs-cons (AreApart has) x xs
    (λ k d below p. go p (has x p) (once p) k d below)
    (apart_from_hits has xs (λ p. omega (arith, once p)))
  where
    go : (p : P) (here : Bool) → one_if here + hits has xs p ≤ 1 →
        (k : ℕ) (d : R) → k < length xs → (here && has (get_or xs k d) p) ≡ false
    go p true le k d below = all_lack-from_hits has xs p (omega (arith, le)) k d below
    go p false le k d below = refl

-- there is no meet exactly where no point is in both
none_from_has : {R P : Type 0} (has : R → P → Bool) (low : R → P) (a b : R) (meet : Option R) →
    ((r : R) → has r (low r) ≡ true) →
    ((p : P) → some_has has meet p ≡ (has a p && has b p)) →
    IsNone meet ↔ AreApart has a b
none_from_has has low a b None has_low meet_has = (λ none p. sym (meet_has p), λ apart. refl)
none_from_has has low a b (Some m) has_low meet_has =
    (λ none. cc, λ apart. absurd (both_ways (has m (low m)) (meet_has (low m) ∙ apart (low m)) (has_low m)))

-- what is said by cases of the meet, where there is none
pub alone-at_none : {R S : Type 0} (pieces : R → List S) (meet : Option R) (alone : List S) →
    IsNone meet → option_map_or pieces meet alone ≡ alone
alone-at_none pieces None alone none = refl
alone-at_none pieces (Some m) alone none = cc

one_if-le : (test : Bool) → one_if test ≤ 1
one_if-le true = omega arith
one_if-le false = omega arith

-- all laws follow where the pieces are known by counting alone
pub IsRegion-from_hits : {R P : Type 0} (has : R → P → Bool) (at_most : P → P → Bool) (low : R → P)
    (meet : R → R → Option R) (within : R → R → Bool) (minus : R → R → List R) →
    ((a b : R) → ((p : P) → has a p ≡ has b p) → a ≡ b) →
    ((r : R) → has r (low r) ≡ true) →
    ((r : R) (p : P) → has r p ≡ true → at_most (low r) p ≡ true) →
    IsOrder at_most →
    ((a b : R) (p : P) → some_has has (meet a b) p ≡ (has a p && has b p)) →
    ((a b : R) → MatchBool (within a b) (AllInside has a b) (SomeOutside has a b)) →
    ((a b : R) (p : P) → hits has (minus a b) p ≡ one_if (has a p && not (has b p))) →
    ((a b : R) → IsNone (meet a b) → minus a b ≡ a ∷ []) →
    IsRegion has at_most low meet within minus
IsRegion-from_hits has at_most low meet within minus same has_low low_least order meet_has within_cases minus_hits minus_alone = record {
  same = same;
  has_low = has_low;
  low_least = low_least;
  order = order;
  meet_has = meet_has;
  meet_none = λ a b. none_from_has has low a b (meet a b) has_low (meet_has a b);
  within_cases = within_cases;
  minus_apart = λ a b.
      apart_from_hits has (minus a b) (λ p. rw (minus_hits a b p) (one_if-le (has a p && not (has b p))));
  minus_has = λ a b p.
      list_any-from_hits has (minus a b) p (has a p && not (has b p)) (minus_hits a b p);
  minus_hits = minus_hits;
  minus_alone = minus_alone;
}
