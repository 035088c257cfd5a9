-- Port items, as texts write them.
use Rattle.std.specs.Prelude.{ℕ, ◌+◌, ◌*◌, ◌≤◌, Bool, true, ◌&&◌, List, Option, Some, None, option_map, Result, bytes_eq, codes, nat_le, if◌then◌else◌}
use Rattle.sel_text.specs.declared.fault.TextFault.{TextFault}
use Rattle.sel_text.specs.declared.port.PortItem.{PortItem}
use Rattle.sel_text.specs.declared.port.PortItem.TheVariants.{Any, Opaque, Number, TypeCode}
use Rattle.sel_text.specs.Fault.{bounded}
use Rattle.sel_text.specs.Number.{number_in}
use Rattle.sel_text.specs.Parts.{cut, pair}

-- what a port item writes, with numbers of any size: from one number to another, all codes of a
-- type, or from one type and code to another
pub data WrittenPort : Type 0 where
  any : WrittenPort
  opaque : WrittenPort
  numbers : ℕ × ℕ → WrittenPort
  every_code : ℕ → WrittenPort
  type_codes : (ℕ × ℕ) × (ℕ × ℕ) → WrittenPort

-- `T/C`, by what stands on the two sides of `/`
abbrev pub type_code_in : List ℕ × List ℕ → Option (ℕ × ℕ)
type_code_in sides = pair (number_in sides.0) (number_in sides.1)

-- `N`, `T/any` or `T/C`, by the first `/`
abbrev pub value_by : List ℕ → Option (List ℕ × List ℕ) → Option WrittenPort
value_by text None = option_map (λ (number : ℕ). numbers (number, number)) (number_in text)
value_by text (Some sides) =
    if bytes_eq sides.1 (codes "any") then option_map every_code (number_in sides.0)
    else option_map (λ (value : ℕ × ℕ). type_codes (value, value)) (type_code_in sides)

-- `N-M` or `T/C-U/D`, by the first `/` of both ends
abbrev pub span_by : List ℕ × List ℕ → Option (List ℕ × List ℕ) → Option (List ℕ × List ℕ) → Option WrittenPort
span_by ends None None = option_map numbers (pair (number_in ends.0) (number_in ends.1))
span_by ends None (Some last) = None
span_by ends (Some first) None = None
span_by ends (Some first) (Some last) = option_map type_codes (pair (type_code_in first) (type_code_in last))

-- a value or a span, by the first `-`
abbrev pub values_by : List ℕ → Option (List ℕ × List ℕ) → Option WrittenPort
values_by text None = value_by text (cut 47 text)
values_by text (Some ends) = span_by ends (cut 47 ends.0) (cut 47 ends.1)

-- the port item that a text writes, if it writes one
abbrev pub port_in : List ℕ → Option WrittenPort
port_in text =
    if bytes_eq text (codes "any") then Some any
    else (if bytes_eq text (codes "opaque") then Some opaque else values_by text (cut 45 text))

-- whether a type and a code fit a byte each
abbrev pub is_type_code : ℕ × ℕ → Bool
is_type_code value = nat_le value.0 255 && nat_le value.1 255

-- the value that stands for a type and a code
abbrev pub type_code_value : ℕ × ℕ → ℕ
type_code_value value = 256 * value.0 + value.1

-- what the two sides of a `/` mean as a type and a code
unfoldable pub type_code_meaning : List ℕ → List ℕ → Result ℕ TextFault
type_code_meaning type code = bounded is_type_code type_code_value (type_code_in (type, code))

-- whether each number is within its bound, and the first value not above the last
abbrev pub port_fits : WrittenPort → Bool
port_fits any = true
port_fits opaque = true
port_fits (numbers ends) = (nat_le ends.0 65535 && nat_le ends.1 65535) && nat_le ends.0 ends.1
port_fits (every_code type) = nat_le type 255
port_fits (type_codes ends) =
    (is_type_code ends.0 && is_type_code ends.1) && nat_le (type_code_value ends.0) (type_code_value ends.1)

abbrev pub port_of : WrittenPort → PortItem
port_of any = Any
port_of opaque = Opaque
port_of (numbers ends) = Number ends.0 ends.1
port_of (every_code type) = TypeCode (256 * type) (256 * type + 255)
port_of (type_codes ends) = TypeCode (type_code_value ends.0) (type_code_value ends.1)

-- what a text means as a port item
abbrev pub port_meaning : List ℕ → Result PortItem TextFault
port_meaning text = bounded port_fits port_of (port_in text)

-- a range with its first value not above its last
abbrev pub ArePortsInOrder : PortItem → Type 0
ArePortsInOrder Any = Unit {0}
ArePortsInOrder Opaque = Unit {0}
ArePortsInOrder (Number first last) = first ≤ last
ArePortsInOrder (TypeCode first last) = first ≤ last
