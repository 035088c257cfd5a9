-- The text of a packet, as a trace writes it (RFC 4301 section 4.4.1.1).
use Rattle.std.specs.Prelude.{ℕ, ◌/◌, ◌%◌, List, ◌++◌, ◌==◌, codes, decimal, if◌then◌else◌}
use Rattle.sel_box.specs.declared.any_box.AxisName.{AxisName}
use Rattle.sel_box.specs.declared.form.FieldForm.{FieldForm}
use Rattle.sel_box.specs.Class.{form_of, opaque_field, opaque_protocol, shows_type_code}
use Rattle.sel_box.specs.Packet.{PacketFields}
use Rattle.spd_text.specs.RangeText.{number_text, value_text}

-- A field of the form: a type and a code with `/` between them, or a number, and `opaque` for OPAQUE.
abbrev pub field_text : FieldForm → ℕ → List ℕ
field_text form field =
    if field == opaque_field then codes "opaque"
    else if shows_type_code form then decimal (field / 256) ++ (codes "/" ++ decimal (field % 256))
    else decimal field

-- The protocol and both fields.
abbrev pub shown_text : ℕ → ℕ → ℕ → List ℕ
shown_text protocol source_field destination_field =
    number_text opaque_protocol protocol
    ++ (codes " " ++ (field_text (form_of protocol) source_field ++ (codes " " ++ field_text (form_of protocol) destination_field)))

-- The source and the destination, and then what the packet shows beside them.
abbrev pub packet_text : PacketFields → List ℕ
packet_text p =
    value_text p.family AxisName.Local p.source ++ (codes " " ++ (value_text p.family AxisName.Remote p.destination
    ++ (codes " " ++ shown_text p.protocol p.source_field p.destination_field)))
