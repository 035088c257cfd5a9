-- What is read is in order.
use Rattle.std.proofs.Common.{◌≡◌, ℕ, true, false, ◌&&◌, cond, leb, List, Option, Some, None, option_and_then, IfSome, bytes_eq, codes, subst, Ok, arith}
use Rattle.std.proofs.lemmas.Bool.{and_parts, leb-true}
use Rattle.sel_text.specs.declared.item.AddressItem.{AddressItem}
use Rattle.sel_text.specs.declared.port.PortItem.{PortItem}
use Rattle.sel_text.proofs.Faults.{bounded_ok}
use Rattle.sel_text.specs.Number.{number_in}
use Rattle.sel_text.specs.Parts.{cut, pair}
use Rattle.sel_text.specs.Address.{WrittenAddress, dotted, grouped, address_in, address_fits}
use Rattle.sel_text.specs.Item.{WrittenItem, any as any_address, one, prefix, range, range_in, addresses_by, item_by, item_in, item_fits, item_of, number_of}
use Rattle.sel_text.specs.Item.{item_meaning, AreAddressesInOrder}
use Rattle.sel_text.specs.Port.{WrittenPort, any, opaque, numbers, every_code, type_codes, is_type_code, type_code_value, port_in, port_fits, port_of}
use Rattle.sel_text.specs.Port.{port_meaning, ArePortsInOrder}

port_order : (written : WrittenPort) → port_fits written ≡ true → ArePortsInOrder (port_of written)
port_order any fit = tt
port_order opaque fit = tt
port_order (numbers ends) fit = leb-true ends.0 ends.1 (and_parts (leb ends.0 65535 && leb ends.1 65535) (leb ends.0 ends.1) fit).1
port_order (every_code type) fit = omega arith
port_order (type_codes ends) fit =
    leb-true (type_code_value ends.0) (type_code_value ends.1)
    (and_parts (is_type_code ends.0 && is_type_code ends.1) (leb (type_code_value ends.0) (type_code_value ends.1)) fit).1

pub port_in_order : (text : List ℕ) (read : PortItem) → port_meaning text ≡ Ok read → ArePortsInOrder read
port_in_order text read is =
    let found = bounded_ok port_fits port_of (port_in text) read is in
    subst ArePortsInOrder found.3 (port_order found.0 found.2)

-- two addresses of a range are of one family
abbrev OneFamily : WrittenItem → Type 0
OneFamily any_address = Unit {0}
OneFamily (one address) = Unit {0}
OneFamily (prefix written) = Unit {0}
OneFamily (range (dotted first, dotted last)) = Unit {0}
OneFamily (range (dotted first, grouped last)) = ⊥
OneFamily (range (grouped first, dotted last)) = ⊥
OneFamily (range (grouped first, grouped last)) = Unit {0}

range_family : (ends : WrittenAddress × WrittenAddress) → IfSome (range_in ends) OneFamily
range_family (dotted first, dotted last) = tt
range_family (dotted first, grouped last) = tt
range_family (grouped first, dotted last) = tt
range_family (grouped first, grouped last) = tt

some_after : {X W : Type 0} (P : W → Type 0) (f : X → Option W) → ((x : X) → IfSome (f x) P) → (o : Option X) → IfSome (option_and_then f o) P
some_after P f each None = tt
some_after P f each (Some x) = each x

addresses_family : (text : List ℕ) (ends : Option (List ℕ × List ℕ)) → IfSome (addresses_by text ends) OneFamily
addresses_family text None = some_after OneFamily (λ address. Some (one address)) (λ address. tt) (address_in text)
addresses_family text (Some ends) = some_after OneFamily range_in range_family (pair (address_in ends.0) (address_in ends.1))

item_family : (text : List ℕ) (sides : Option (List ℕ × List ℕ)) → IfSome (item_by text sides) OneFamily
item_family text None = addresses_family text (cut 45 text)
item_family text (Some sides) = some_after OneFamily (λ written. Some (prefix written)) (λ written. tt) (pair (address_in sides.0) (number_in sides.1))

one_family : (text : List ℕ) → IfSome (item_in text) OneFamily
one_family text =
    elim (bytes_eq text (codes "any")) as (λ word. IfSome (cond word (Some any_address) (item_by text (cut 47 text))) OneFamily) [
      | true ↦ tt
      | false ↦ item_family text (cut 47 text)
    ]

item_order : (written : WrittenItem) → OneFamily written → item_fits written ≡ true → AreAddressesInOrder (item_of written)
item_order any_address family fit = tt
item_order (one (dotted octets)) family fit = omega arith
item_order (one (grouped groups)) family fit = omega arith
item_order (prefix (dotted octets, length)) family fit = omega arith
item_order (prefix (grouped groups, length)) family fit = omega arith
item_order (range (dotted first, dotted last)) family fit =
    leb-true (number_of (dotted first)) (number_of (dotted last))
    (and_parts (address_fits (dotted first) && address_fits (dotted last)) (leb (number_of (dotted first)) (number_of (dotted last))) fit).1
item_order (range (dotted first, grouped last)) family fit = family
item_order (range (grouped first, dotted last)) family fit = family
item_order (range (grouped first, grouped last)) family fit =
    leb-true (number_of (grouped first)) (number_of (grouped last))
    (and_parts (address_fits (grouped first) && address_fits (grouped last)) (leb (number_of (grouped first)) (number_of (grouped last))) fit).1

pub item_in_order : (text : List ℕ) (read : AddressItem) → item_meaning text ≡ Ok read → AreAddressesInOrder read
item_in_order text read is =
    let found = bounded_ok item_fits item_of (item_in text) read is in
    let family = subst (λ (o : Option WrittenItem). IfSome o OneFamily) found.1 (one_family text) in
    subst AreAddressesInOrder found.3 (item_order found.0 family found.2)
