-- In which parts of an axis the addresses of a range lie.
use Rattle.std.proofs.Common.{◌≡◌, ℕ, ◌<◌, ◌≤◌, Bool, true, false, nat_le, List, length, Option, Some, None, cond, get_or, inl, inr, ◌&&◌, ap, arith}
use Rattle.std.proofs.lemmas.Bool.{and_parts, cases_lt, leb-true}
use Rattle.std.proofs.lemmas.Bool.Decides.{nat_tests}
use Rattle.sel_text.specs.declared.family.Family.{Family}
use Rattle.sel_text.specs.declared.item.AddressItem.{AddressItem}
use Rattle.sel_text.specs.Family.{address_value}
use Rattle.spd_line.specs.Families.{is_range_of_family}
use Rattle.spd_line.specs.Selects.{address_has}
use Rattle.spd_index.specs.inner.Ends.{ends_of}
use Rattle.spd_index.specs.inner.Rows.{IsPart}

-- A higher address lies in no lower part.
pub IsPart-rises : (starts : List ℕ) (a b p q : ℕ) → IsPart starts a p → IsPart starts b q → a ≤ b → p ≤ q
IsPart-rises starts a b p q of_a of_b up = elim (cases_lt q p) [
  | inl below ↦ absurd (no_start (get_or starts q 0) (of_a.between.0 q 0 (omega arith) below) (of_b.between.1 q 0 (omega arith) (within below)))
  | inr above ↦ above
]
  where
    within : q < p → q < length starts
    within below = let most = of_a.within in omega arith

    no_start : (start : ℕ) → nat_le start a ≡ true → nat_le start b ≡ false → ⊥
    no_start start at_a past_b = grind (arith, nat_tests)

-- What an item has lies between its ends.
pub address_has-between : (family : Family) (a : ℕ) (item : AddressItem) (low high : ℕ) →
    ends_of family item ≡ Some (low, high) → address_has family a item ≡ true → (low ≤ a) × (a ≤ high)
address_has-between family a AddressItem.Any low high ends has = cc
address_has-between family a (AddressItem.Range first last) low high ends has =
    go (is_range_of_family family first last) ends (and_parts _ _ has)
  where
    go : (of_family : Bool) → cond {A = Option (ℕ × ℕ)} of_family (Some (address_value first, address_value last)) None ≡ Some (low, high) →
        (is_range_of_family family first last ≡ true) × ((nat_le (address_value first) a && nat_le a (address_value last)) ≡ true) → (low ≤ a) × (a ≤ high)
    go true is parts =
        let same : (address_value first, address_value last) ≡ (low, high) = cc in
        let from : address_value first ≡ low = ap (λ (ends : ℕ × ℕ). ends.0) same in
        let to : address_value last ≡ high = ap (λ (ends : ℕ × ℕ). ends.1) same in
        let both = and_parts (nat_le (address_value first) a) (nat_le a (address_value last)) parts.1 in
        (rw (← from) (leb-true _ _ both.0), rw (← to) (leb-true _ _ both.1))
    go false is parts = cc
