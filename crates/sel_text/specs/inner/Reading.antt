-- What steps of the readers give.
use Rattle.std.specs.Prelude.{ℕ, Bool, true, false, ◌+◌, ◌-◌, ◌*◌, ◌^◌, ◌==◌, nat_lt, List, length, Option, Some, None, option_map, option_and_then, Result, Ok}
use Rattle.std.specs.Prelude.{Err, nat_le, if◌then◌else◌}
use Rattle.sel_text.specs.declared.fault.TextFault.{TextFault}
use Rattle.sel_text.specs.declared.fault.TextFault.TheVariants.{NotInGrammar, OutOfRange}
use Rattle.sel_text.specs.declared.port.PortItem.{PortItem}
use Rattle.sel_text.specs.declared.item.AddressItem.{AddressItem}
use Rattle.sel_text.specs.Fault.{bounded}
use Rattle.sel_text.specs.Number.{number_in}
use Rattle.sel_text.specs.Address.{address_in}
use Rattle.sel_text.specs.Item.{prefix, range_in, item_fits, item_of, lowest, highest}
use Rattle.sel_text.specs.declared.item.AddressItem.TheVariants.{Range}
use Rattle.sel_text.specs.declared.address.Address.{Address}
use Rattle.sel_text.specs.declared.address.Address.TheVariants.{Four, Six}
use Rattle.sel_text.specs.Port.{value_by, span_by, port_fits, port_of}
use Rattle.std.specs.Borrow.{Bor}
use Rattle.sel_text.specs.Parts.{cut, pair, halves_now}
use Rattle.sel_text.specs.Four.{dotted_in, are_octets, address_of_octets}
use Rattle.sel_text.specs.Six.{address_of_groups, eight_in, groups_in, side_in}

-- what two texts mean together: not in the grammar where either is not, else out of range where
-- either is
abbrev pub both : {A B : Type 0} → Result A TextFault → Result B TextFault → Result (A × B) TextFault
both (Err NotInGrammar) second = Err NotInGrammar
both (Ok first) (Ok second) = Ok (first, second)
both (Ok first) (Err fault) = Err fault
both (Err OutOfRange) (Ok second) = Err OutOfRange
both (Err OutOfRange) (Err fault) = Err fault

-- four texts that are lent
abbrev pub quarters_now : (Bor (List ℕ) × Bor (List ℕ)) × (Bor (List ℕ) × Bor (List ℕ)) → (List ℕ × List ℕ) × (List ℕ × List ℕ)
quarters_now texts = (halves_now texts.0, halves_now texts.1)

-- a text by its first three dots
abbrev pub quarters : List ℕ → Option ((List ℕ × List ℕ) × (List ℕ × List ℕ))
quarters text = do
  first ← cut 46 text
  second ← cut 46 first.1
  third ← cut 46 second.1
  Some ((first.0, second.0), third)
  where
    infixl 10 ◌>>=◌
    ◌>>=◌ : {A B : Type 0} → Option A → (A → Option B) → Option B
    o >>= f = option_and_then f o

-- ends that are in order
abbrev pub in_order : Result (ℕ × ℕ) TextFault → Result (ℕ × ℕ) TextFault
in_order (Ok ends) = if nat_le ends.0 ends.1 then Ok ends else Err OutOfRange
in_order (Err fault) = Err fault

-- what a text without `-` means as a port item
abbrev pub value_meaning : List ℕ → Result PortItem TextFault
value_meaning text = bounded port_fits port_of (value_by text (cut 47 text))

-- what the two sides of a `-` mean as a port item
abbrev pub span_meaning : List ℕ → List ℕ → Result PortItem TextFault
span_meaning first last = bounded port_fits port_of (span_by (first, last) (cut 47 first) (cut 47 last))

-- what a text means as an IPv4 address
abbrev pub four_meaning : List ℕ → Result ℕ TextFault
four_meaning text = bounded are_octets address_of_octets (dotted_in text)

-- what a text means as an IPv6 address, whose groups pass no bound
abbrev pub six_meaning : List ℕ → Result ℕ TextFault
six_meaning text = bounded (λ groups. true) address_of_groups (eight_in text)

-- groups as one number, and how many they are, if they are at most eight
abbrev pub counted : List ℕ → Option (ℕ × ℕ)
counted groups = if nat_le (length groups) 8 then Some (address_of_groups groups, length groups) else None

abbrev pub counted_groups : List ℕ → Option (ℕ × ℕ)
counted_groups text = option_and_then counted (groups_in text)

abbrev pub counted_side : List ℕ → Option (ℕ × ℕ)
counted_side text = option_and_then counted (side_in text)

-- groups and one more, where there is room for it
abbrev pub with_group : ℕ × ℕ → Option ℕ → Option (ℕ × ℕ)
with_group so_far None = None
with_group so_far (Some group) = if nat_lt so_far.1 8 then Some (so_far.0 * 65536 + group, so_far.1 + 1) else None

-- the address that eight groups are
abbrev pub all_groups : ℕ × ℕ → Option ℕ
all_groups groups = if groups.1 == 8 then Some groups.0 else None

-- the address with groups before `::` and after it
abbrev pub joined_groups : ℕ × ℕ → ℕ × ℕ → Option ℕ
joined_groups before after =
    if nat_le (before.1 + after.1) 7 then Some (before.0 * 65536 ^ (8 - before.1) + after.0) else None

-- the address of a text, by its first `::`
abbrev pub address_by : List ℕ → Option (List ℕ × List ℕ) → Option ℕ
address_by text None = option_and_then all_groups (counted_groups text)
address_by text (Some sides) =
    option_and_then (λ before. option_and_then (joined_groups before) (counted_side sides.1)) (counted_side sides.0)

-- what the two sides of a `/` mean as a prefix
unfoldable pub prefix_meaning : List ℕ → List ℕ → Result AddressItem TextFault
prefix_meaning address length = bounded item_fits item_of (option_map prefix (pair (address_in address) (number_in length)))

-- what the two sides of a `-` mean as a range of addresses
unfoldable pub range_meaning : List ℕ → List ℕ → Result AddressItem TextFault
range_meaning first last = bounded item_fits item_of (option_and_then range_in (pair (address_in first) (address_in last)))

-- the range of a prefix of either family
abbrev pub four_prefix : ℕ × ℕ → AddressItem
four_prefix written = Range (Four (lowest written.0 (32 - written.1))) (Four (highest written.0 (32 - written.1)))

abbrev pub six_prefix : ℕ × ℕ → AddressItem
six_prefix written = Range (Six (lowest written.0 (128 - written.1))) (Six (highest written.0 (128 - written.1)))

-- whether an address is not above another, all of IPv4 being below IPv6
abbrev pub address_le : Address → Address → Bool
address_le (Four first) (Four last) = nat_le first last
address_le (Four first) (Six last) = true
address_le (Six first) (Four last) = false
address_le (Six first) (Six last) = nat_le first last

-- the range between two addresses that are in order
abbrev pub addresses_in_order : Result (Address × Address) TextFault → Result AddressItem TextFault
addresses_in_order (Ok ends) = if address_le ends.0 ends.1 then Ok (Range ends.0 ends.1) else Err OutOfRange
addresses_in_order (Err fault) = Err fault
