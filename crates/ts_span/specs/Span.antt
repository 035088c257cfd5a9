-- What a traffic selector selects on its side (RFC 7296 section 3.13.1).
use Rattle.std.specs.Prelude.{ℕ, ◌+◌, ◌*◌, ◌/◌, Bool, ◌==◌, ◌&&◌, nat_le, Option, Some, None, option_map, if◌then◌else◌}
use Rattle.sel_text.specs.declared.family.Family.{Family}
use Rattle.sel_text.specs.Family.{last_address, same_family}
use Rattle.sel_box.specs.Class.{opaque_field, opaque_protocol}
use Rattle.ts_payload.specs.declared.selector.Ts.{Ts}
use Rattle.ts_payload.specs.Selector.{has_all_ports, has_opaque_ports}
use Rattle.ts_span.specs.declared.spanning.TsSpan.{TsSpan}

-- The number lies from the first of two to the second.
abbrev pub lies_in : ℕ × ℕ → ℕ → Bool
lies_in range number = nat_le range.0 number && nat_le number range.1

-- The protocol 0 selects every protocol, OPAQUE among them, and another selects itself.
abbrev pub selects_protocol : Ts → ℕ → Bool
selects_protocol selector protocol =
    if selector.protocol == 0 then nat_le protocol opaque_protocol else protocol == selector.protocol

-- The ports select every field, OPAQUE among them; OPAQUE alone; or what lies between them: of the Mobility Header the types
-- whose 256-fold does, of another protocol the field itself.
abbrev pub selects_field : Ts → ℕ → Bool
selects_field selector field =
    if has_all_ports selector then nat_le field opaque_field
    else if has_opaque_ports selector then field == opaque_field
    else if selector.protocol == 135 then lies_in (selector.start_port, selector.end_port) (256 * field)
    else lies_in (selector.start_port, selector.end_port) field

-- The selector selects the address, protocol and field of its side.
abbrev pub selects : Ts → Family → ℕ → ℕ → ℕ → Bool
selects selector family address protocol field =
    (same_family selector.family family && lies_in (selector.start, selector.«end») address)
    && (selects_protocol selector protocol && selects_field selector field)

-- Each of these lies in its range.
abbrev pub span_has : TsSpan → Family → ℕ → ℕ → ℕ → Bool
span_has span family address protocol field =
    (same_family span.family family && lies_in span.addresses address)
    && (lies_in span.protocols protocol && lies_in span.fields field)

-- The range has a number, and none above this one.
abbrev pub is_range : ℕ → ℕ × ℕ → Bool
is_range last range = nat_le range.0 range.1 && nat_le range.1 last

-- Each range has a number, and lies on its axis.
abbrev pub is_span : TsSpan → Bool
is_span span =
    is_range (last_address span.family) span.addresses
    && (is_range opaque_protocol span.protocols && is_range opaque_field span.fields)

-- The least and the greatest type whose 256-fold lies between two ports, where there is one.
abbrev pub types_between : ℕ → ℕ → Option (ℕ × ℕ)
types_between start last =
    if nat_le ((start + 255) / 256) (last / 256) then Some ((start + 255) / 256, last / 256) else None

-- The ranges of what a selector selects, where there is a field.
abbrev pub fields_of : Ts → Option (ℕ × ℕ)
fields_of selector =
    if has_all_ports selector then Some (0, opaque_field)
    else if has_opaque_ports selector then Some (opaque_field, opaque_field)
    else if selector.protocol == 135 then types_between selector.start_port selector.end_port
    else Some (selector.start_port, selector.end_port)

abbrev pub protocols_of : ℕ → ℕ × ℕ
protocols_of protocol = if protocol == 0 then (0, opaque_protocol) else (protocol, protocol)

abbrev pub span_with : Ts → ℕ × ℕ → TsSpan
span_with selector fields = record {
  family = selector.family;
  addresses = (selector.start, selector.«end»);
  protocols = protocols_of selector.protocol;
  fields = fields;
}

abbrev pub span_of : Ts → Option TsSpan
span_of selector = option_map (span_with selector) (fields_of selector)
