-- What a word of a trace line means by its place.
use Rattle.std.specs.Prelude.{ℕ, ◌^◌, ◌-◌, List, bytes_eq, codes, Option, Some, None, option_map, if◌then◌else◌}
use Rattle.std.specs.Result.{result_ok}
use Rattle.sel_box.specs.declared.packet.Direction.{Direction}
use Rattle.sel_box.specs.declared.packet.Direction.TheVariants.{Outbound, Inbound}
use Rattle.sel_box.specs.Class.{opaque_protocol}
use Rattle.sel_text.specs.declared.address.Address.{Address}
use Rattle.sel_text.specs.Address.{address_meaning}
use Rattle.sel_text.specs.Name.{name_meaning}
use Rattle.sel_text.specs.Number.{number_meaning}
use Rattle.sel_text.specs.Parts.{cut}
use Rattle.sel_text.specs.Port.{type_code_meaning}
use Rattle.trace_text.specs.declared.keyword.Keyword.{Keyword}
use Rattle.trace_text.specs.declared.written.WrittenField.{WrittenField}
use Rattle.trace_text.specs.declared.written.WrittenField.TheVariants.{Opaque, Number, TypeCode}

-- The number that a word is, where it is at most this.
abbrev pub number_word : ℕ → List ℕ → Option ℕ
number_word most word = result_ok (number_meaning most word)

-- A direction is `out` or `in`.
abbrev pub direction_of : List ℕ → Option Direction
direction_of word =
    if bytes_eq word (codes "out") then Some Outbound
    else if bytes_eq word (codes "in") then Some Inbound else None

-- A lane is a number up to 15, a place one of 32 bits.
abbrev pub lane_of : List ℕ → Option ℕ
lane_of word = number_word 15 word

abbrev pub place_of : List ℕ → Option ℕ
place_of word = number_word (2 ^ 32 - 1) word

abbrev pub name_of : List ℕ → Option (List ℕ)
name_of word = result_ok (name_meaning word)

abbrev pub address_word : List ℕ → Option Address
address_word word = result_ok (address_meaning word)

-- A protocol is `opaque` or a number of one byte.
abbrev pub protocol_of : List ℕ → Option ℕ
protocol_of word =
    if bytes_eq word (codes "opaque") then Some opaque_protocol else number_word 255 word

-- A type and a code, each of one byte, on the two sides of a `/`: 256 times the type, and the code.
abbrev pub type_code_of : List ℕ × List ℕ → Option WrittenField
type_code_of sides = option_map TypeCode (result_ok (type_code_meaning sides.0 sides.1))

-- A number of two bytes, or a type and a code, by the first `/`.
abbrev pub value_of : List ℕ → Option (List ℕ × List ℕ) → Option WrittenField
value_of word None = option_map Number (number_word 65535 word)
value_of word (Some sides) = type_code_of sides

-- A field is `opaque`, a number, or a type and a code.
abbrev pub field_of : List ℕ → Option WrittenField
field_of word = if bytes_eq word (codes "opaque") then Some Opaque else value_of word (cut 47 word)

-- The first word of a line that is an event.
abbrev pub keyword_of : List ℕ → Option Keyword
keyword_of word =
    if bytes_eq word (codes "pkt") then Some Keyword.Pkt
    else if bytes_eq word (codes "take") then Some Keyword.Take
    else if bytes_eq word (codes "search") then Some Keyword.Search
    else if bytes_eq word (codes "fill") then Some Keyword.Fill
    else if bytes_eq word (codes "insert") then Some Keyword.Insert
    else if bytes_eq word (codes "delete") then Some Keyword.Delete
    else if bytes_eq word (codes "move") then Some Keyword.Move else None
