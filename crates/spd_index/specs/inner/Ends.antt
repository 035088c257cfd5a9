-- The address items of a side, and the ends of a range.
use Rattle.std.specs.Prelude.{ℕ, List, Option, Some, None, if◌then◌else◌}
use Rattle.sel_text.specs.declared.family.Family.{Family}
use Rattle.sel_text.specs.declared.item.AddressItem.{AddressItem}
use Rattle.sel_text.specs.Family.{address_value}
use Rattle.spd_line.specs.declared.line.LineParts.{LineParts}
use Rattle.spd_line.specs.Families.{is_range_of_family}
use Rattle.spd_index.specs.declared.ends.Side.{Side}

-- The address selector of a side.
abbrev pub items_of : Side → LineParts → List AddressItem
items_of Side.Local line = line.local
items_of Side.Remote line = line.remote

-- The first and the last address of a range of the family.
abbrev pub ends_of : Family → AddressItem → Option (ℕ × ℕ)
ends_of family AddressItem.Any = None
ends_of family (AddressItem.Range first last) =
    if is_range_of_family family first last then Some (address_value first, address_value last) else None
