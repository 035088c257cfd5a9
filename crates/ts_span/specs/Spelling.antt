-- The selectors that a span is written as.
use Rattle.std.specs.Prelude.{◌≡◌, ℕ, Bool, ◌==◌, ◌&&◌, ◌||◌, nat_le, List, map}
use Rattle.std.specs.List.{list_any}
use Rattle.sel_text.specs.declared.family.Family.{Family}
use Rattle.sel_box.specs.Class.{opaque_field, opaque_protocol}
use Rattle.sel_box.specs.Point.{PointFields}
use Rattle.ts_payload.specs.declared.selector.Ts.{Ts}
use Rattle.ts_span.specs.declared.spanning.TsSpan.{TsSpan}
use Rattle.ts_span.specs.Span.{selects, span_has}
use Rattle.ts_span.specs.Table.{field_rows, ports_by}

-- The protocol is one number from 1 to 255.
abbrev pub has_number : TsSpan → Bool
has_number span =
    (span.protocols.0 == span.protocols.1) && (nat_le 1 span.protocols.0 && nat_le span.protocols.0 255)

-- The protocols are all, and the fields all or OPAQUE alone.
abbrev pub has_all_protocols : TsSpan → Bool
has_all_protocols span =
    ((span.protocols.0 == 0) && (span.protocols.1 == opaque_protocol))
    && ((span.fields.1 == opaque_field) && ((span.fields.0 == 0) || (span.fields.0 == opaque_field)))

-- The span can be written as selectors.
abbrev pub is_writable : TsSpan → Bool
is_writable span = has_number span || has_all_protocols span

-- The selector of the span's family and addresses with these ports; the protocol is its number, or 0 where it has all.
abbrev pub selector_with : TsSpan → ℕ × ℕ → Ts
selector_with span ports = record {
  family = span.family;
  protocol = span.protocols.0;
  start_port = ports.0;
  end_port = ports.1;
  start = span.addresses.0;
  «end» = span.addresses.1;
}

-- The selectors that the span is written as, by the table.
abbrev pub spelled : TsSpan → List Ts
spelled span = map (selector_with span) (ports_by (span.protocols.0 == 135) span.fields field_rows)

-- Some selector selects the address, protocol and field of its side.
abbrev pub some_selects : List Ts → Family → ℕ → ℕ → ℕ → Bool
some_selects selectors family address protocol field =
    list_any (λ selector. selects selector family address protocol field) selectors

-- A field of the Mobility Header that is no type, which has one byte, and not OPAQUE.
abbrev pub is_no_type : ℕ → ℕ → Bool
is_no_type protocol field = (protocol == 135) && (nat_le 256 field && nat_le field 65535)

-- The selectors select of a point what the span has, on the local side and on the remote side.
pub record SelectsLike (selectors : List Ts) (span : TsSpan) (x : PointFields) : Type 0 where
  pub local : some_selects selectors x.family x.local x.protocol x.local_field ≡ span_has span x.family x.local x.protocol x.local_field
  pub remote : some_selects selectors x.family x.remote x.protocol x.remote_field ≡ span_has span x.family x.remote x.protocol x.remote_field
