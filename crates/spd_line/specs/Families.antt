-- The families of a line's address ranges (RFC 4301 section 4.4.1.1).
use Rattle.std.specs.Prelude.{Bool, true, not, ◌&&◌, ◌||◌}
use Rattle.std.specs.List.{list_any}
use Rattle.sel_text.specs.declared.address.Address.{Address}
use Rattle.sel_text.specs.declared.family.Family.{Family}
use Rattle.sel_text.specs.declared.family.Family.TheVariants.{Four, Six}
use Rattle.sel_text.specs.declared.item.AddressItem.{AddressItem}
use Rattle.sel_text.specs.Family.{address_family, same_family}
use Rattle.spd_line.specs.declared.line.LineParts.{LineParts}

-- Two addresses are of different families.
abbrev pub families_differ : Address → Address → Bool
families_differ a b = not (same_family (address_family a) (address_family b))

-- The item has addresses of the family: ANY of each, a range of that of its first address.
abbrev pub is_of_family : Family → AddressItem → Bool
is_of_family family AddressItem.Any = true
is_of_family family (AddressItem.Range first last) = same_family family (address_family first)

-- A range from one address to another is of the family.
abbrev pub is_range_of_family : Family → Address → Address → Bool
is_range_of_family family first last =
    same_family family (address_family first) && same_family family (address_family last)

-- Some family has both a local and a remote range.
abbrev pub both_sides_have : LineParts → Family → Bool
both_sides_have parts family =
    list_any (is_of_family family) parts.local && list_any (is_of_family family) parts.remote

abbrev pub shares_family : LineParts → Bool
shares_family parts = both_sides_have parts Four || both_sides_have parts Six
