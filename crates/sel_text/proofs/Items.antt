-- What the steps of reading an address item come to.
use Rattle.std.proofs.Common.{◌≡◌, cond, bytes_eq, codes, ℕ, suc, ◌+◌, ◌-◌, ◌*◌, ◌/◌, ◌^◌, ◌<◌, ◌≤◌, Bool, true, false, ◌&&◌, bit_and, List, Option, Some, None}
use Rattle.std.proofs.Common.{option_map, option_and_then, refl, ap, Ok, Err, arith}
use mathlib.Core.Bool.{beq}
use Rattle.std.proofs.Math.Nat.{suc-mul, mul-le-mul_right}
use Rattle.std.proofs.Math.Pow.{pow-add}
use Rattle.std.proofs.lemmas.Nat.{and_mask, shr_split, shr_below}
use Rattle.sel_text.specs.declared.address.Address.{Address}
use Rattle.sel_text.specs.declared.item.AddressItem.TheVariants.{Range}
use Rattle.sel_text.specs.declared.fault.TextFault.TheVariants.{NotInGrammar, OutOfRange}
use Rattle.sel_text.specs.Fault.{bounded}
use Rattle.sel_text.proofs.Faults.{mapped}
use Rattle.sel_text.specs.inner.Reading.{both, four_meaning, six_meaning}
use Rattle.sel_text.specs.Number.{number_meaning}
use Rattle.sel_text.specs.Parts.{pair, cut}
use Rattle.sel_text.specs.Address.{WrittenAddress, dotted, grouped, has_colon, address_meaning}
use Rattle.sel_text.specs.Item.{range, range_in, lowest, highest, item_meaning}
use Rattle.sel_text.specs.inner.Reading.{prefix_meaning, range_meaning, four_prefix, six_prefix, addresses_in_order, address_le}
use Rattle.sel_text.proofs.Faults.{both-bounded, mapped-bounded, bounded-option_map}

pub without_host : (address bits : ℕ) → address - bit_and address (2 ^ bits - 1) ≡ lowest address bits
without_host address bits = rw and_mask (omega (arith, shr_split address bits))

-- no address of a prefix is longer than its family's
pub highest-lt : (address bits width : ℕ) → bits ≤ width → address < 2 ^ width → highest address bits < 2 ^ width
highest-lt address bits width few small =
    let size = 2 ^ bits in
    let all : (width - bits) + bits ≡ width = omega arith in
    let beginning : address / size < 2 ^ (width - bits) = shr_below address (width - bits) bits (rw all small) in
    let below : suc (address / size) * size ≤ 2 ^ (width - bits) * size = mul-le-mul_right size beginning in
    omega (arith, below, suc-mul (address / size) size, pow-add 2 (width - bits) bits, ap (λ (k : ℕ). 2 ^ k) all)

pair-option_map : {W X Y : Type 0} (into : W → X) (first : Option W) (second : Option Y)
    → pair (option_map into first) second ≡ option_map (λ (p : W × Y). (into p.0, p.1)) (pair first second)
pair-option_map into None second = refl
pair-option_map into (Some w) None = refl
pair-option_map into (Some w) (Some y) = refl

pub prefix_as_six : (address length : List ℕ) → has_colon address ≡ true
    → prefix_meaning address length ≡ mapped six_prefix (both (six_meaning address) (number_meaning 128 length))
unfolding prefix_meaning
prefix_as_six address length colon =
    rw (colon, pair-option_map, bounded-option_map, bounded-option_map, both-bounded, mapped-bounded)

pub prefix_as_four : (address length : List ℕ) → has_colon address ≡ false
    → prefix_meaning address length ≡ mapped four_prefix (both (four_meaning address) (number_meaning 32 length))
unfolding prefix_meaning
prefix_as_four address length none =
    rw (none, pair-option_map, bounded-option_map, bounded-option_map, both-bounded, mapped-bounded)

-- two addresses that are written in one family's way, and a range of that family
family_range : {W : Type 0} (into : W → WrittenAddress) → ((p : W × W) → range_in (into p.0, into p.1) ≡ Some (range (into p.0, into p.1)))
    → (first last : Option W) → option_and_then range_in (pair (option_map into first) (option_map into last))
    ≡ option_map (λ (p : W × W). range (into p.0, into p.1)) (pair first last)
family_range into one_family None last = refl
family_range into one_family (Some f) None = refl
family_range into one_family (Some f) (Some l) = one_family (f, l)

-- of two families there is no range
no_range : {W X : Type 0} (into : W → WrittenAddress) (also : X → WrittenAddress) → ((p : W × X) → range_in (into p.0, also p.1) ≡ None)
    → (first : Option W) (last : Option X) → option_and_then range_in (pair (option_map into first) (option_map also last)) ≡ None
no_range into also two_families None last = refl
no_range into also two_families (Some f) None = refl
no_range into also two_families (Some f) (Some l) = two_families (f, l)

addresses_in_order-bounded : {W : Type 0} (fits : W → Bool) (value : W → Address × Address) (written : Option W)
    → addresses_in_order (bounded fits value written) ≡ bounded (λ w. fits w && address_le (value w).0 (value w).1) (λ w. Range (value w).0 (value w).1) written
addresses_in_order-bounded fits value None = refl
addresses_in_order-bounded fits value (Some w) = by_test (fits w)
  where
    by_test : (b : Bool) → addresses_in_order (cond b (Ok (value w)) (Err OutOfRange))
        ≡ cond (b && address_le (value w).0 (value w).1) (Ok (Range (value w).0 (value w).1)) (Err OutOfRange)
    by_test true = refl
    by_test false = refl

range_in_family : (first last : List ℕ) (six : Bool) → has_colon first ≡ six → has_colon last ≡ six
    → range_meaning first last ≡ addresses_in_order (both (address_meaning first) (address_meaning last))
unfolding range_meaning
range_in_family first last true one two =
    rw (one, two, family_range grouped (λ p. refl), bounded-option_map, bounded-option_map, bounded-option_map, both-bounded, addresses_in_order-bounded)
range_in_family first last false one two =
    rw (one, two, family_range dotted (λ p. refl), bounded-option_map, bounded-option_map, bounded-option_map, both-bounded, addresses_in_order-bounded)

pub range_of_family : (first last : List ℕ) → has_colon first ≡ has_colon last
    → range_meaning first last ≡ addresses_in_order (both (address_meaning first) (address_meaning last))
range_of_family first last same = range_in_family first last (has_colon last) same refl

range_in_families : (first last : List ℕ) (six also_six : Bool) → has_colon first ≡ six → has_colon last ≡ also_six → (six ≡ also_six → ⊥)
    → range_meaning first last ≡ Err NotInGrammar
unfolding range_meaning
range_in_families first last true true one two differ = absurd (differ refl)
range_in_families first last true false one two differ = rw (one, two, no_range grouped dotted (λ p. refl))
range_in_families first last false true one two differ = rw (one, two, no_range dotted grouped (λ p. refl))
range_in_families first last false false one two differ = absurd (differ refl)

pub range_of_families : (first last : List ℕ) → (has_colon first ≡ has_colon last → ⊥) → range_meaning first last ≡ Err NotInGrammar
range_of_families first last differ = range_in_families first last (has_colon first) (has_colon last) refl refl differ

pub item_of_address : (text : List ℕ) → bytes_eq text (codes "any") ≡ false → cut 47 text ≡ None → cut 45 text ≡ None
    → item_meaning text ≡ mapped (λ (address : Address). Range address address) (address_meaning text)
item_of_address text other whole also_whole = rw (other, whole, also_whole, bounded-option_map, mapped-bounded)

pub same_from_beq : (a b : Bool) → beq a b ≡ true → a ≡ b
same_from_beq true true same = refl
same_from_beq true false same = absurd cc
same_from_beq false true same = absurd cc
same_from_beq false false same = refl

pub apart_from_beq : (a b : Bool) → beq a b ≡ false → a ≡ b → ⊥
apart_from_beq true true differ same = cc
apart_from_beq true false differ same = cc
apart_from_beq false true differ same = cc
apart_from_beq false false differ same = cc
