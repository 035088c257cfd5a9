-- The entries of a line stand next to one another, and give its group alone.
use Rattle.std.proofs.Common.{◌≡◌, ℕ, zero, suc, ◌+◌, ◌-◌, ◌<◌, ◌≤◌, Bool, true, false, ◌==◌, nat_lt, nat_le, cond, List}
use Rattle.std.proofs.Common.{[], ◌∷◌, ◌++◌, length, get_or, take, drop, None, option_map, refl, sym, ap, subst, ◌∙◌, arith}
use Rattle.std.specs.List.{filter}
use Rattle.std.specs.List.Sorted.{IsPartitionPoint}
use Rattle.std.specs.Option.{option_to_list}
use Rattle.std.proofs.lemmas.Bool.Decides.{nat_tests}
use Rattle.std.proofs.lemmas.List.{get_or-drop, length-drop}
use Rattle.sel_box.specs.declared.any_box.AnyBox.{AnyBox}
use Rattle.spd_line.specs.declared.line_boxes.LineBox.{LineBox}
use Rattle.spd_line.specs.declared.pin.Pins.{Pins}
use Rattle.spd_cut.specs.declared.entry.Entry.{Entry}
use Rattle.spd_cut.specs.Group.{group_of, pinned_part}

-- A test that passes from a place on, so many times, and nowhere else.
record PassesBetween {X : Type 0} (test : X → Bool) (xs : List X) (first count : ℕ) : Type 0 where
  within : first + count ≤ length xs
  before : (k : ℕ) (d : X) → k < first → test (get_or xs k d) ≡ false
  between : (k : ℕ) (d : X) → first ≤ k → k < first + count → test (get_or xs k d) ≡ true
  behind : (k : ℕ) (d : X) → first + count ≤ k → k < length xs → test (get_or xs k d) ≡ false

module _ {X : Type 0} (test : X → Bool) where
  abbrev put : Bool → X → List X → List X
  put passes x xs = cond passes (x ∷ xs) xs

  filter-between : (xs : List X) (first count : ℕ) → PassesBetween test xs first count → filter test xs ≡ take count (drop first xs)
  filter-between [] zero zero at = refl
  filter-between [] zero (suc count) at = let within = at.within in absurd (omega arith)
  filter-between [] (suc first) count at = let within = at.within in absurd (omega arith)
  filter-between (x ∷ xs) zero zero at =
      ap (λ (passes : Bool). put passes x (filter test xs)) (at.behind 0 x (omega arith) (omega arith))
      ∙ filter-between xs zero zero record {
        within = omega arith;
        before = λ k d below. absurd (omega arith);
        between = λ k d low high. absurd (omega arith);
        behind = λ k d low high. at.behind (suc k) d (omega arith) (omega arith);
      }
  filter-between (x ∷ xs) zero (suc count) at =
      let within = at.within in
      ap (λ (passes : Bool). put passes x (filter test xs)) (at.between 0 x (omega arith) (omega arith))
      ∙ ap (λ (rest : List X). x ∷ rest)
      (filter-between xs zero count record {
        within = omega arith;
        before = λ k d below. absurd (omega arith);
        between = λ k d low high. at.between (suc k) d (omega arith) (omega arith);
        behind = λ k d low high. at.behind (suc k) d (omega arith) (omega arith);
      })
  filter-between (x ∷ xs) (suc first) count at =
      let within = at.within in
      ap (λ (passes : Bool). put passes x (filter test xs)) (at.before 0 x (omega arith))
      ∙ filter-between xs first count record {
        within = omega arith;
        before = λ k d below. at.before (suc k) d (omega arith);
        between = λ k d low high. at.between (suc k) d (omega arith) (omega arith);
        behind = λ k d low high. at.behind (suc k) d (omega arith) (omega arith);
      }

-- Behind the links that are less, and up to the first that is greater, each link is this one.
linked_between : (es : List Entry) (link first count : ℕ) → first ≤ length es → count ≤ length (drop first es) →
    IsPartitionPoint (λ (e : Entry). nat_lt e.link link ≡ true) (λ (e : Entry). nat_lt e.link link ≡ false) es first →
    IsPartitionPoint (λ (e : Entry). nat_le e.link link ≡ true) (λ (e : Entry). nat_le e.link link ≡ false) (drop first es) count →
    take count (drop first es) ≡ filter (λ (e : Entry). e.link == link) es
linked_between es link first count within inside less most =
    let many = length-drop first es in
    sym (filter-between (λ (e : Entry). e.link == link) es first count record {
      within = omega (arith, many);
      before = λ k d below. other_below (get_or es k d).link (less.0 k d (omega arith) below);
      between = λ k d low high. same_link (get_or es k d).link (less.1 k d low (omega (arith, many)))
          (subst (λ (e : Entry). nat_le e.link link ≡ true) (there k d low) (most.0 (k - first) d (omega arith) (omega arith)));
      behind = λ k d low high. other_above (get_or es k d).link
          (subst (λ (e : Entry). nat_le e.link link ≡ false) (there k d (omega arith)) (most.1 (k - first) d (omega arith) (omega (arith, many))));
    })
  where
    there : (k : ℕ) (d : Entry) → first ≤ k → get_or (drop first es) (k - first) d ≡ get_or es k d
    there k d low = get_or-drop first es (k - first) d ∙ ap (λ (n : ℕ). get_or es n d) (omega arith)

    other_below : (n : ℕ) → nat_lt n link ≡ true → (n == link) ≡ false
    other_below n less = grind (arith, nat_tests)

    same_link : (n : ℕ) → nat_lt n link ≡ false → nat_le n link ≡ true → (n == link) ≡ true
    same_link n less most = grind (arith, nat_tests)

    other_above : (n : ℕ) → nat_le n link ≡ false → (n == link) ≡ false
    other_above n most = grind (arith, nat_tests)

-- The same where the rest is given by itself.
pub linked_in : (es rest : List Entry) (link first count : ℕ) → rest ≡ drop first es → first ≤ length es → count ≤ length rest →
    IsPartitionPoint (λ (e : Entry). nat_lt e.link link ≡ true) (λ (e : Entry). nat_lt e.link link ≡ false) es first →
    IsPartitionPoint (λ (e : Entry). nat_le e.link link ≡ true) (λ (e : Entry). nat_le e.link link ≡ false) rest count →
    take count rest ≡ filter (λ (e : Entry). e.link == link) es
linked_in es rest link first count is within inside less most =
    ap (take count) is
    ∙ linked_between es link first count within (subst (λ (r : List Entry). count ≤ length r) is inside) less
    (subst
    (λ (r : List Entry). IsPartitionPoint (λ (e : Entry). nat_le e.link link ≡ true) (λ (e : Entry). nat_le e.link link ≡ false) r count)
    is most)

-- The entries of other lines give nothing to a line's group.
pub group_of-linked : (es : List Entry) (link : ℕ) (pins : Pins) →
    group_of (filter (λ (e : Entry). e.link == link) es) link pins ≡ group_of es link pins
group_of-linked [] link pins = refl
group_of-linked (e ∷ es) link pins = go (e.link == link) refl (group_of-linked es link pins)
  where
    given : Bool → List LineBox
    given test =
        option_to_list (cond test (option_map (λ (region : AnyBox). record { region = region; judgement = e.judgement }) (pinned_part pins e.region)) None)

    go : (test : Bool) → (e.link == link) ≡ test →
        group_of (filter (λ (e : Entry). e.link == link) es) link pins ≡ group_of es link pins →
        group_of (cond test (e ∷ filter (λ (e : Entry). e.link == link) es) (filter (λ (e : Entry). e.link == link) es)) link pins
        ≡ given (e.link == link) ++ group_of es link pins
    go true is rest = ap (λ (later : List LineBox). given (e.link == link) ++ later) rest
    go false is rest =
        rest
        ∙ ap (λ (test : Bool). given test ++ group_of es link pins) (sym is)
