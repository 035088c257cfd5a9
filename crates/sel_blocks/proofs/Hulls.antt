-- Regions within a hull: what doesn't meet the hull meets none of them.
use Rattle.std.proofs.Common.{◌≡◌, ℕ, ◌+◌, ◌<◌, Bool, true, false, ◌&&◌, List, [], ◌∷◌, ◌++◌, length, take, get_or, Option, IsNone, refl, subst, ap₂}
use Rattle.std.specs.List.{All}
use Rattle.std.proofs.lemmas.List.Elements.{All-head, All-more, All-push, All-tail, All-weaker}
use Rattle.sel_region.specs.Cutting.{cut_each}
use Rattle.sel_region.specs.Region.{IsHull, IsRegion}
use Rattle.sel_region.proofs.Regions.{within-by_points}

module _ {R P : Type 0}
    {has : R → P → Bool} {at_most : P → P → Bool} {low : R → P}
    {meet : R → R → Option R} {within : R → R → Bool} {minus : R → R → List R}
    (laws : IsRegion has at_most low meet within minus)
  where
    -- a region within one that is within another is within that
    pub within-within : (a b c : R) → within a b ≡ true → within b c ≡ true → within a c ≡ true
    within-within a b c in_b in_c =
        (within-by_points laws a c).1 (λ p h. (within-by_points laws b c).0 in_c p ((within-by_points laws a b).0 in_b p h))

    -- what doesn't meet a region meets none within it
    pub apart-within : (r hull other : R) → within r hull ≡ true → IsNone (meet hull other) → IsNone (meet r other)
    apart-within r hull other inside apart =
        (laws.meet_none r other).1 (λ p. go (has r p) (has hull p) (has other p)
        ((within-by_points laws r hull).0 inside p) ((laws.meet_none hull other).0 apart p))
      where
        go : (x y z : Bool) → (x ≡ true → y ≡ true) → (y && z) ≡ false → (x && z) ≡ false
        go true y z h e = subst (λ (b : Bool). (b && z) ≡ false) (h refl) e
        go false y z h e = refl

    pub all_apart : (rs : List R) (hull other : R) → All (λ r. within r hull ≡ true) rs → IsNone (meet hull other) →
        All (λ r. IsNone (meet r other)) rs
    all_apart rs hull other inside apart =
        All-weaker (λ r. within r hull ≡ true) (λ r. IsNone (meet r other)) (λ r h. apart-within r hull other h apart) rs inside

    -- where none of some regions meets another, each is left alone
    pub uncut-by_apart : (rs : List R) (other : R) → All (λ r. IsNone (meet r other)) rs → cut_each minus rs other ≡ rs
    uncut-by_apart [] other apart = refl
    uncut-by_apart (r ∷ rs) other apart =
        ap₂ (λ here later. here ++ later)
        (laws.minus_alone r other (All-head (λ r. IsNone (meet r other)) r rs apart))
        (uncut-by_apart rs other (All-tail (λ r. IsNone (meet r other)) r rs apart))

    module _ {hull : R → R → R} (hulls : IsHull within hull) where
      -- what is within a region is within its hull with another
      pub within-hull : (rs : List R) (a b : R) → All (λ r. within r a ≡ true) rs → All (λ r. within r (hull a b) ≡ true) rs
      within-hull rs a b inside =
          All-weaker (λ r. within r a ≡ true) (λ r. within r (hull a b) ≡ true)
          (λ r h. within-within r a (hull a b) h (hulls.first a b)) rs inside

      pub within-hull_push : (rs : List R) (a b : R) → All (λ r. within r a ≡ true) rs →
          All (λ r. within r (hull a b) ≡ true) (rs ++ b ∷ [])
      within-hull_push rs a b inside =
          All-push (λ r. within r (hull a b) ≡ true) rs b (within-hull rs a b inside) (hulls.second a b)

      pub within-hull_more : (rs : List R) (i : ℕ) (a b : R) → i < length rs → b ≡ get_or rs i b →
          All (λ r. within r a ≡ true) (take i rs) → All (λ r. within r (hull a b) ≡ true) (take (i + 1) rs)
      within-hull_more rs i a b below is inside =
          All-more (λ r. within r (hull a b) ≡ true) rs i b below (within-hull (take i rs) a b inside)
          (subst (λ (r : R). within r (hull a b) ≡ true) is (hulls.second a b))
