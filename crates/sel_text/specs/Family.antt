-- The two versions of IP, and addresses as numbers.
use Rattle.std.specs.Prelude.{ℕ, ◌-◌, ◌^◌, Bool, true, false}
use Rattle.sel_text.specs.declared.address.Address.{Address}
use Rattle.sel_text.specs.declared.family.Family.{Family}
use Rattle.sel_text.specs.declared.family.Family.TheVariants.{Four, Six}

-- The last address of a family.
abbrev pub last_address : Family → ℕ
last_address Four = 2 ^ 32 - 1
last_address Six = 2 ^ 128 - 1

-- Two families are the same.
abbrev pub same_family : Family → Family → Bool
same_family Four Four = true
same_family Six Six = true
same_family Four Six = false
same_family Six Four = false

-- An address by its family and its number.
abbrev pub address_family : Address → Family
address_family (Address.Four address) = Four
address_family (Address.Six address) = Six

abbrev pub address_value : Address → ℕ
address_value (Address.Four address) = address
address_value (Address.Six address) = address

abbrev pub address_from : Family → ℕ → Address
address_from Four value = Address.Four value
address_from Six value = Address.Six value
