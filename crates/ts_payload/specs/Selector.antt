-- Traffic selectors by their values (RFC 7296 section 3.13.1).
use Rattle.std.specs.Prelude.{ℕ, Bool, ◌==◌, ◌&&◌, ◌||◌, not, nat_le, List, IsTrue, Option, Some, None, if◌then◌else◌}
use Rattle.std.specs.List.{list_all}
use Rattle.sel_text.specs.Family.{last_address}
use Rattle.ts_payload.specs.declared.selector.Ts.{Ts}
use Rattle.ts_payload.specs.declared.fault.TsFault.{TsFault}
use Rattle.ts_payload.specs.declared.fault.TsFault.TheVariants.{AddressOrder, PortOrder, PortNoProtocol}

-- The ports of every field, OPAQUE among them.
abbrev pub has_all_ports : Ts → Bool
has_all_ports selector = (selector.start_port == 0) && (selector.end_port == 65535)

-- The ports of OPAQUE alone.
abbrev pub has_opaque_ports : Ts → Bool
has_opaque_ports selector = (selector.start_port == 65535) && (selector.end_port == 0)

-- The starting address is not above the ending address.
abbrev pub addresses_in_order : Ts → Bool
addresses_in_order selector = nat_le selector.start selector.end

-- The start port is not above the end port, or the ports are those of OPAQUE.
abbrev pub ports_in_order : Ts → Bool
ports_in_order selector = nat_le selector.start_port selector.end_port || has_opaque_ports selector

-- A selector of every protocol has the ports of every field or of OPAQUE.
abbrev pub ports_suit_protocol : Ts → Bool
ports_suit_protocol selector =
    not (selector.protocol == 0) || (has_all_ports selector || has_opaque_ports selector)

-- The first of these rules that the selector with this index breaks.
abbrev pub rule_fault : ℕ → Ts → Option TsFault
rule_fault index selector =
    if not (addresses_in_order selector) then Some (AddressOrder index)
    else if not (ports_in_order selector) then Some (PortOrder index)
    else if not (ports_suit_protocol selector) then Some (PortNoProtocol index)
    else None

-- The selector breaks none.
abbrev pub keeps_rules : Ts → Bool
keeps_rules selector = addresses_in_order selector && (ports_in_order selector && ports_suit_protocol selector)

-- Each value fits the bytes that it is written in.
abbrev pub fits_bytes : Ts → Bool
fits_bytes selector =
    nat_le selector.protocol 255 && (nat_le selector.start_port 65535 && (nat_le selector.end_port 65535
    && (nat_le selector.start (last_address selector.family) && nat_le selector.end (last_address selector.family))))

-- A payload can have the selector.
abbrev pub is_selector : Ts → Bool
is_selector selector = fits_bytes selector && keeps_rules selector

-- A payload can have each of these selectors.
abbrev pub AreSelectors : List Ts → Type 0
AreSelectors selectors = IsTrue (list_all is_selector selectors)
