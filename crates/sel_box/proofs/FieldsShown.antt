-- The least fields that packets of a protocol show in two ranges, source first.
use Rattle.std.proofs.Common.{◌≡◌, ℕ, ◌≤◌, Bool, true, false, ◌&&◌, ◌||◌, nat_eq, nat_le, if◌then◌else◌, Option, Some, None, sym, refl, subst, arith}
use Rattle.std.proofs.lemmas.Bool.{and_from, and_parts, both_ways}
use Rattle.std.proofs.lemmas.Bool.Decides.{nat_tests}
use Rattle.std.specs.Option.{option_or}
use Rattle.sel_region.specs.Interval.{Range, range_has}
use Rattle.sel_box.specs.Class.{fields_fit, greatest_field, has_one_field, has_two_ports, opaque_field}
use Rattle.sel_box.specs.LeastPacket.{at_most_then}
use Rattle.sel_box.specs.inner.Shown.{least_fields}
use Rattle.sel_box.specs.SomePoint.{shows, shows_fields}

-- the first of three pairs that passes a test
abbrev first_of : (ℕ → ℕ → Bool) → ℕ × ℕ → ℕ × ℕ → ℕ × ℕ → Option (ℕ × ℕ)
first_of test a b c =
    option_or (if test a.0 a.1 then Some a else None)
    (option_or (if test b.0 b.1 then Some b else None)
    (if test c.0 c.1 then Some c else None))

-- which of them it is
data WhichOf (test : ℕ → ℕ → Bool) (a b c f : ℕ × ℕ) : Type 0 where
  is_first : f ≡ a → test a.0 a.1 ≡ true → WhichOf test a b c f
  is_second : f ≡ b → test a.0 a.1 ≡ false → test b.0 b.1 ≡ true → WhichOf test a b c f
  is_third : f ≡ c → test a.0 a.1 ≡ false → test b.0 b.1 ≡ false → test c.0 c.1 ≡ true → WhichOf test a b c f

which_of : (test : ℕ → ℕ → Bool) (a b c f : ℕ × ℕ) → first_of test a b c ≡ Some f → WhichOf test a b c f
which_of test a b c f found = go (test a.0 a.1) (test b.0 b.1) (test c.0 c.1) refl refl refl found
  where
    go : (x y z : Bool) → test a.0 a.1 ≡ x → test b.0 b.1 ≡ y → test c.0 c.1 ≡ z →
        option_or (if x then Some a else None) (option_or (if y then Some b else None) (if z then Some c else None)) ≡ Some f →
        WhichOf test a b c f
    go true y z ea eb ec e = is_first (let same : f ≡ a = cc in same) ea
    go false true z ea eb ec e = is_second (let same : f ≡ b = cc in same) ea eb
    go false false true ea eb ec e = is_third (let same : f ≡ c = cc in same) ea eb ec
    go false false false ea eb ec e = absurd (let none : ⊥ = cc in none)

none_of : (test : ℕ → ℕ → Bool) (a b c : ℕ × ℕ) → first_of test a b c ≡ None →
    (test a.0 a.1 ≡ false) × (test b.0 b.1 ≡ false) × (test c.0 c.1 ≡ false)
none_of test a b c found = go (test a.0 a.1) (test b.0 b.1) (test c.0 c.1) refl refl refl found
  where
    go : (x y z : Bool) → test a.0 a.1 ≡ x → test b.0 b.1 ≡ y → test c.0 c.1 ≡ z →
        option_or (if x then Some a else None) (option_or (if y then Some b else None) (if z then Some c else None)) ≡ None →
        (test a.0 a.1 ≡ false) × (test b.0 b.1 ≡ false) × (test c.0 c.1 ≡ false)
    go true y z ea eb ec e = absurd (let none : ⊥ = cc in none)
    go false true z ea eb ec e = absurd (let none : ⊥ = cc in none)
    go false false true ea eb ec e = absurd (let none : ⊥ = cc in none)
    go false false false ea eb ec e = (ea, eb, ec)

-- fields that a class allows, by whether it has two ports or one field up to a top
abbrev fits : Bool → Bool → ℕ → ℕ → ℕ → Bool
fits two one top source destination =
    if two
    then (nat_le source 65535 && nat_le destination 65535) || (nat_eq source opaque_field && nat_eq destination opaque_field)
    else if one
    then (nat_le source top || nat_eq source opaque_field) && nat_eq destination opaque_field
    else nat_eq source opaque_field && nat_eq destination opaque_field

-- where neither the least fields fit nor the least source field beside OPAQUE, only two OPAQUE fields do
only_opaque : (two one : Bool) (top low least s d : ℕ) → low ≤ s → least ≤ d → fits two one top s d ≡ true →
    fits two one top low least ≡ false → (d ≡ opaque_field → fits two one top low opaque_field ≡ false) →
    (s ≡ opaque_field) × (d ≡ opaque_field)
only_opaque true one top low least s d h k e a b = (grind (arith, nat_tests), grind (arith, nat_tests))
only_opaque false true top low least s d h k e a b =
    let opaque : d ≡ opaque_field = grind (arith, nat_tests) in
    let unfit = b opaque in
    (grind (arith, nat_tests), opaque)
only_opaque false false top low least s d h k e a b = (grind (arith, nat_tests), grind (arith, nat_tests))

-- where the least fields don't fit, but the least source field beside OPAQUE does, that is least
opaque_least : (two one : Bool) (top low least s d : ℕ) → low ≤ s → least ≤ d → fits two one top s d ≡ true →
    fits two one top low least ≡ false → fits two one top low opaque_field ≡ true →
    at_most_then low s (nat_le opaque_field d) ≡ true
opaque_least true one top low least s d h k e a b = grind (arith, nat_tests)
opaque_least false true top low least s d h k e a b = grind (arith, nat_tests)
opaque_least false false top low least s d h k e a b = grind (arith, nat_tests)

least_least : (low least s d : ℕ) → low ≤ s → least ≤ d → at_most_then low s (nat_le least d) ≡ true
least_least low least s d h k = grind (arith, nat_tests)

range_low-le : (r : Range) (n : ℕ) → range_has r n ≡ true → r.low ≤ n
range_low-le r n has = grind (arith, nat_tests)

has_low : (r : Range) → range_has r r.low ≡ true
has_low r = grind (arith, nat_tests)

-- a test with the first two parts true fails by its third
third_false : (x y z : Bool) → x ≡ true → y ≡ true → (x && y && z) ≡ false → z ≡ false
third_false x y z ex ey e = grind arith

pub shows-parts : (protocol : ℕ) (sources destinations : Range) (s d : ℕ) → shows protocol sources destinations s d ≡ true →
    (range_has sources s ≡ true) × (range_has destinations d ≡ true) × (fields_fit protocol s d ≡ true)
shows-parts protocol sources destinations s d e =
    let all = and_parts (range_has sources s && range_has destinations d) (fields_fit protocol s d) e in
    let ranges = and_parts (range_has sources s) (range_has destinations d) all.0 in
    (ranges.0, ranges.1, all.1)

pub shows-from : (protocol : ℕ) (sources destinations : Range) (s d : ℕ) →
    range_has sources s ≡ true → range_has destinations d ≡ true → fields_fit protocol s d ≡ true → shows protocol sources destinations s d ≡ true
shows-from protocol sources destinations s d in_sources in_destinations fit =
    and_from _ _ (and_from _ _ in_sources in_destinations) fit

module _ (protocol : ℕ) (sources destinations : Range) where
  abbrev test : ℕ → ℕ → Bool
  test = shows protocol sources destinations

  unfit_low : test sources.low destinations.low ≡ false → fields_fit protocol sources.low destinations.low ≡ false
  unfit_low e = third_false _ _ _ (has_low sources) (has_low destinations) e

  unfit_opaque : test sources.low opaque_field ≡ false → range_has destinations opaque_field ≡ true →
      fields_fit protocol sources.low opaque_field ≡ false
  unfit_opaque e has = third_false _ _ _ (has_low sources) has e

  -- where two corners fail, the third is what is shown
  last_corner : (s d : ℕ) → test s d ≡ true → test sources.low destinations.low ≡ false → test sources.low opaque_field ≡ false →
      (s ≡ opaque_field) × (d ≡ opaque_field)
  last_corner s d shown a b =
      let parts = shows-parts protocol sources destinations s d shown in
      only_opaque (has_two_ports protocol) (has_one_field protocol) (greatest_field protocol) sources.low destinations.low s d
      (range_low-le sources s parts.0) (range_low-le destinations d parts.1) parts.2 (unfit_low a)
      (λ e. unfit_opaque b (subst (λ n. range_has destinations n ≡ true) e parts.1))

  shown_opaque : (s d : ℕ) → test s d ≡ true → (s ≡ opaque_field) × (d ≡ opaque_field) → test opaque_field opaque_field ≡ true
  shown_opaque s d shown both =
      subst (λ n. test n opaque_field ≡ true) both.0 (subst (λ n. test s n ≡ true) both.1 shown)

  pub least_fields-inside : (f : ℕ × ℕ) → least_fields (fields_fit protocol) sources destinations ≡ Some f → test f.0 f.1 ≡ true
  least_fields-inside f found =
      elim (which_of test (sources.low, destinations.low) (sources.low, opaque_field) (opaque_field, opaque_field) f found) [
        | is_first e a ↦ subst (λ g. test g.0 g.1 ≡ true) (sym e) a
        | is_second e a b ↦ subst (λ g. test g.0 g.1 ≡ true) (sym e) b
        | is_third e a b c ↦ subst (λ g. test g.0 g.1 ≡ true) (sym e) c
      ]

  pub least_fields-none : (s d : ℕ) → least_fields (fields_fit protocol) sources destinations ≡ None → test s d ≡ true → ⊥
  least_fields-none s d found shown =
      let none = none_of test (sources.low, destinations.low) (sources.low, opaque_field) (opaque_field, opaque_field) found in
      both_ways _ none.2 (shown_opaque s d shown (last_corner s d shown none.0 none.1))

  pub least_fields-least : (f : ℕ × ℕ) (s d : ℕ) → least_fields (fields_fit protocol) sources destinations ≡ Some f → test s d ≡ true →
      at_most_then f.0 s (nat_le f.1 d) ≡ true
  least_fields-least f s d found shown =
      let parts = shows-parts protocol sources destinations s d shown in
      let low = range_low-le sources s parts.0 in
      let least = range_low-le destinations d parts.1 in
      elim (which_of test (sources.low, destinations.low) (sources.low, opaque_field) (opaque_field, opaque_field) f found) [
        | is_first e a ↦ subst (λ (g : ℕ × ℕ). at_most_then g.0 s (nat_le g.1 d) ≡ true) (sym e) (least_least sources.low destinations.low s d low least)
        | is_second e a b ↦ subst (λ (g : ℕ × ℕ). at_most_then g.0 s (nat_le g.1 d) ≡ true) (sym e)
            (opaque_least (has_two_ports protocol) (has_one_field protocol) (greatest_field protocol)
            sources.low destinations.low s d low least parts.2 (unfit_low a)
            (shows-parts protocol sources destinations sources.low opaque_field b).2)
        | is_third e a b c ↦ subst (λ (g : ℕ × ℕ). at_most_then g.0 s (nat_le g.1 d) ≡ true) (sym e)
            (let both = last_corner s d shown a b in least_least opaque_field opaque_field s d (omega (arith, both)) (omega (arith, both)))
      ]

  -- some fields are shown exactly where the trial of the corners finds some
  pub shows_fields-from : (s d : ℕ) → test s d ≡ true → shows_fields protocol sources destinations ≡ true
  shows_fields-from s d shown =
      go (test sources.low destinations.low) (test sources.low opaque_field) (test opaque_field opaque_field) refl refl
      (λ a b. shown_opaque s d shown (last_corner s d shown a b))
    where
      go : (x y z : Bool) → test sources.low destinations.low ≡ x → test sources.low opaque_field ≡ y →
          (test sources.low destinations.low ≡ false → test sources.low opaque_field ≡ false → z ≡ true) →
          ((x || (y || false)) || ((test opaque_field destinations.low || (z || false)) || false)) ≡ true
      go true y z a b last = refl
      go false true z a b last = refl
      go false false z a b last = let opaque : z ≡ true = last a b in grind (arith, opaque)

  pub shows_fields-some : shows_fields protocol sources destinations ≡ true → (s : ℕ) × (d : ℕ) × (test s d ≡ true)
  shows_fields-some some =
      go (test sources.low destinations.low) (test sources.low opaque_field)
      (test opaque_field destinations.low) (test opaque_field opaque_field) refl refl refl refl some
    where
      go : (w x y z : Bool) → test sources.low destinations.low ≡ w → test sources.low opaque_field ≡ x →
          test opaque_field destinations.low ≡ y → test opaque_field opaque_field ≡ z →
          ((w || (x || false)) || ((y || (z || false)) || false)) ≡ true → (s : ℕ) × (d : ℕ) × (test s d ≡ true)
      go true x y z a b c e some = (sources.low, destinations.low, a)
      go false true y z a b c e some = (sources.low, opaque_field, b)
      go false false true z a b c e some = (opaque_field, destinations.low, c)
      go false false false true a b c e some = (opaque_field, opaque_field, e)
      go false false false false a b c e some = absurd (let none : ⊥ = cc in none)
