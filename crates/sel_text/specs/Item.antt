-- Address items, as texts write them.
use Rattle.std.specs.Prelude.{ℕ, ◌+◌, ◌-◌, ◌*◌, ◌/◌, ◌^◌, ◌≤◌, Bool, true, ◌&&◌, List, Option, Some, None, option_map, option_and_then, Result, bytes_eq, codes}
use Rattle.std.specs.Prelude.{nat_le, if◌then◌else◌}
use Rattle.sel_text.specs.declared.address.Address.{Address}
use Rattle.sel_text.specs.declared.address.Address.TheVariants.{Four, Six}
use Rattle.sel_text.specs.declared.fault.TextFault.{TextFault}
use Rattle.sel_text.specs.declared.item.AddressItem.{AddressItem}
use Rattle.sel_text.specs.declared.item.AddressItem.TheVariants.{Any, Range}
use Rattle.sel_text.specs.Fault.{bounded}
use Rattle.sel_text.specs.Number.{number_in}
use Rattle.sel_text.specs.Parts.{cut, pair}
use Rattle.sel_text.specs.Four.{address_of_octets}
use Rattle.sel_text.specs.Six.{address_of_groups}
use Rattle.sel_text.specs.Address.{WrittenAddress, dotted, grouped, address_in, address_fits, address_of}

-- what an address item writes, with numbers of any size: one address, an address and a prefix
-- length, or from one address to another of its family
pub data WrittenItem : Type 0 where
  any : WrittenItem
  one : WrittenAddress → WrittenItem
  prefix : WrittenAddress × ℕ → WrittenItem
  range : WrittenAddress × WrittenAddress → WrittenItem

-- from one address to another, if they are of one family
abbrev pub range_in : WrittenAddress × WrittenAddress → Option WrittenItem
range_in (dotted first, dotted last) = Some (range (dotted first, dotted last))
range_in (dotted first, grouped last) = None
range_in (grouped first, dotted last) = None
range_in (grouped first, grouped last) = Some (range (grouped first, grouped last))

-- an address or a range, by the first `-`
abbrev pub addresses_by : List ℕ → Option (List ℕ × List ℕ) → Option WrittenItem
addresses_by text None = option_map one (address_in text)
addresses_by text (Some ends) = option_and_then range_in (pair (address_in ends.0) (address_in ends.1))

-- an address, a range or a prefix, by the first `/`
abbrev pub item_by : List ℕ → Option (List ℕ × List ℕ) → Option WrittenItem
item_by text None = addresses_by text (cut 45 text)
item_by text (Some sides) = option_map prefix (pair (address_in sides.0) (number_in sides.1))

-- the address item that a text writes, if it writes one
abbrev pub item_in : List ℕ → Option WrittenItem
item_in text = if bytes_eq text (codes "any") then Some any else item_by text (cut 47 text)

-- how many bits an address of the same family has
abbrev pub width_of : WrittenAddress → ℕ
width_of (dotted numbers) = 32
width_of (grouped groups) = 128

-- an address as a number, and a number as an address of a family
abbrev pub number_of : WrittenAddress → ℕ
number_of (dotted numbers) = address_of_octets numbers
number_of (grouped groups) = address_of_groups groups

abbrev pub of_family : WrittenAddress → ℕ → Address
of_family (dotted numbers) number = Four number
of_family (grouped groups) number = Six number

-- whether each number is within its bound, a prefix no longer than the address, and the first
-- address not above the last
abbrev pub item_fits : WrittenItem → Bool
item_fits any = true
item_fits (one address) = address_fits address
item_fits (prefix written) = address_fits written.0 && nat_le written.1 (width_of written.0)
item_fits (range ends) = (address_fits ends.0 && address_fits ends.1) && nat_le (number_of ends.0) (number_of ends.1)

-- the addresses that agree in all but the last bits: the lowest, and the highest
abbrev pub lowest : ℕ → ℕ → ℕ
lowest address bits = address / 2 ^ bits * 2 ^ bits

abbrev pub highest : ℕ → ℕ → ℕ
highest address bits = lowest address bits + (2 ^ bits - 1)

abbrev pub item_of : WrittenItem → AddressItem
item_of any = Any
item_of (one address) = Range (address_of address) (address_of address)
item_of (prefix written) =
    let address = number_of written.0 in
    let bits = width_of written.0 - written.1 in
    Range (of_family written.0 (lowest address bits)) (of_family written.0 (highest address bits))
item_of (range ends) = Range (address_of ends.0) (address_of ends.1)

-- what a text means as an address item
abbrev pub item_meaning : List ℕ → Result AddressItem TextFault
item_meaning text = bounded item_fits item_of (item_in text)

-- a range of one family with its first address not above its last
abbrev pub AreAddressesInOrder : AddressItem → Type 0
AreAddressesInOrder Any = Unit {0}
AreAddressesInOrder (Range (Four first) (Four last)) = first ≤ last
AreAddressesInOrder (Range (Four first) (Six last)) = ⊥
AreAddressesInOrder (Range (Six first) (Four last)) = ⊥
AreAddressesInOrder (Range (Six first) (Six last)) = first ≤ last
