-- Which fields a protocol's packets show (RFC 4301 section 4.4.1.1; numbers of the IANA registry).
use Rattle.std.specs.Prelude.{ℕ, Bool, true, false, ◌==◌, ◌&&◌, ◌||◌, nat_le, if◌then◌else◌}
use Rattle.sel_box.specs.declared.form.FieldForm.{FieldForm}

-- An OPAQUE protocol, which isn't available: the number behind the last that a packet can carry.
abbrev pub opaque_protocol : ℕ
opaque_protocol = 256

-- An OPAQUE field, likewise.
abbrev pub opaque_field : ℕ
opaque_field = 65536

-- TCP, UDP, DCCP, SCTP and UDP-Lite show two ports.
abbrev pub has_two_ports : ℕ → Bool
has_two_ports protocol =
    (protocol == 6) || (protocol == 17) || (protocol == 33) || (protocol == 132) || (protocol == 136)

-- ICMP, ICMPv6 and the Mobility Header show one field, on the sender's side.
abbrev pub has_one_field : ℕ → Bool
has_one_field protocol = (protocol == 1) || (protocol == 58) || (protocol == 135)

-- The greatest number of that one field: a type and a code, or the one byte of a Mobility Header type.
abbrev pub greatest_field : ℕ → ℕ
greatest_field protocol = if protocol == 135 then 255 else 65535

-- A packet of the protocol can show these fields, source first: two ports or none; one number or none; none.
abbrev pub fields_fit : ℕ → ℕ → ℕ → Bool
fields_fit protocol source destination =
    if has_two_ports protocol
    then (nat_le source 65535 && nat_le destination 65535) || ((source == opaque_field) && (destination == opaque_field))
    else if has_one_field protocol
    then (nat_le source (greatest_field protocol) || (source == opaque_field)) && (destination == opaque_field)
    else (source == opaque_field) && (destination == opaque_field)

-- What the fields of a protocol's packets are: two ports; the one byte of a Mobility Header type; a type and a code; none.
abbrev pub form_of : ℕ → FieldForm
form_of protocol =
    if has_two_ports protocol then FieldForm.Ports
    else if protocol == 135 then FieldForm.MobilityType
    else if has_one_field protocol then FieldForm.TypeCode
    else FieldForm.NoField

-- The field is a type and a code.
abbrev pub shows_type_code : FieldForm → Bool
shows_type_code FieldForm.TypeCode = true
shows_type_code _ = false
