-- The packet that five words of a trace line write.
use Rattle.std.specs.Prelude.{ℕ, Bool, true, false, Option, Some, None, option_and_then, if◌then◌else◌}
use Rattle.sel_box.specs.declared.form.FieldForm.{FieldForm}
use Rattle.sel_box.specs.Class.{form_of, opaque_field, shows_type_code}
use Rattle.sel_box.specs.Packet.{PacketFields, is_packet}
use Rattle.sel_text.specs.Family.{address_family, address_value, same_family}
use Rattle.trace_text.specs.declared.written.WrittenField.{WrittenField}
use Rattle.trace_text.specs.declared.written.WrittenField.TheVariants.{Opaque, Number, TypeCode}
use Rattle.trace_text.specs.declared.written.WrittenPacket.{WrittenPacket}

-- The value of a field that is written as packets of this form show it: a type and a code, or else a number.
abbrev pub field_value : FieldForm → WrittenField → Option ℕ
field_value form Opaque = Some opaque_field
field_value form (Number number) = if shows_type_code form then None else Some number
field_value form (TypeCode value) = if shows_type_code form then Some value else None

-- The packet of some values, where there is one.
abbrev pub packet_of : PacketFields → Option PacketFields
packet_of fields = if is_packet fields then Some fields else None

-- The packet that is written, where there is one: both addresses are of one family, each field has the form of the
-- protocol, and a packet can show these values.
abbrev pub written_packet : WrittenPacket → Option PacketFields
written_packet written = if same_family (address_family written.source) (address_family written.destination) then (do
  source_field ← field_value (form_of written.protocol) written.source_field
  destination_field ← field_value (form_of written.protocol) written.destination_field
  packet_of record {
    family = address_family written.source;
    source = address_value written.source;
    destination = address_value written.destination;
    protocol = written.protocol;
    source_field = source_field;
    destination_field = destination_field;
  }) else None
  where
    infixl 10 ◌>>=◌
    ◌>>=◌ : {A B : Type 0} → Option A → (A → Option B) → Option B
    o >>= f = option_and_then f o
