-- Addresses of either family, as texts write them.
use Rattle.std.specs.Prelude.{ℕ, ◌^◌, ◌<◌, Bool, true, ◌==◌, List, Option, Result, option_map, if◌then◌else◌}
use Rattle.std.specs.List.{list_any}
use Rattle.sel_text.specs.declared.address.Address.{Address}
use Rattle.sel_text.specs.declared.address.Address.TheVariants.{Four, Six}
use Rattle.sel_text.specs.declared.fault.TextFault.{TextFault}
use Rattle.sel_text.specs.Fault.{bounded}
use Rattle.sel_text.specs.Four.{dotted_in, are_octets, address_of_octets}
use Rattle.sel_text.specs.Six.{eight_in, address_of_groups}

-- what an address writes: four numbers of any size, or eight groups
pub data WrittenAddress : Type 0 where
  dotted : List ℕ → WrittenAddress
  grouped : List ℕ → WrittenAddress

-- whether a text can only be of IPv6, whose addresses all have a `:`, and none of IPv4
abbrev pub has_colon : List ℕ → Bool
has_colon text = list_any (λ byte. byte == 58) text

-- the address that a text writes, if it writes one
abbrev pub address_in : List ℕ → Option WrittenAddress
address_in text = if has_colon text then option_map grouped (eight_in text) else option_map dotted (dotted_in text)

-- whether each number of a dotted address is an octet
abbrev pub address_fits : WrittenAddress → Bool
address_fits (dotted numbers) = are_octets numbers
address_fits (grouped groups) = true

abbrev pub address_of : WrittenAddress → Address
address_of (dotted numbers) = Four (address_of_octets numbers)
address_of (grouped groups) = Six (address_of_groups groups)

-- what a text means as an address
abbrev pub address_meaning : List ℕ → Result Address TextFault
address_meaning text = bounded address_fits address_of (address_in text)

-- whether an address fits its family
abbrev pub IsAddress : Address → Type 0
IsAddress (Four address) = address < 2 ^ 32
IsAddress (Six address) = address < 2 ^ 128
