-- What the values of single keys of a line mean.
use Rattle.std.specs.Prelude.{ℕ, ℤ, pos, negsuc, List, codes, nat_le, Result, Ok, Err, if◌then◌else◌}
use Rattle.std.specs.Str.{bytes_eq}
use Rattle.toml.specs.Data.{Data, string, integer}
use Rattle.sel_text.specs.Name.{name_meaning}
use Rattle.spd_line.specs.declared.action.Ipsec.{Ipsec}
use Rattle.spd_line.specs.declared.line.ProtocolItem.{ProtocolItem}
use Rattle.spd_line.specs.declared.line.Way.{Way}
use Rattle.spd_line.specs.Policy.{final_name}
use Rattle.spd_file.specs.declared.why.Why.{Why}
use Rattle.spd_file.specs.declared.word.ActionWord.{ActionWord}
use Rattle.spd_file.specs.declared.word.ModeWord.{ModeWord}
use Rattle.spd_file.specs.Steps.{◌>>=◌}
use Rattle.spd_file.specs.Values.{by_grammar}

-- A name, but not that of the line behind all lines.
abbrev pub line_name_of : List ℕ → Result (List ℕ) Why
line_name_of text = do
  name ← by_grammar (name_meaning text)
  if bytes_eq name final_name then Err Why.Reserved else Ok name

abbrev pub action_word_of : List ℕ → Result ActionWord Why
action_word_of text =
    if bytes_eq text (codes "discard") then Ok ActionWord.Discard
    else if bytes_eq text (codes "bypass") then Ok ActionWord.Bypass
    else if bytes_eq text (codes "protect") then Ok ActionWord.Protect
    else Err Why.NotInGrammar

abbrev pub way_of : List ℕ → Result Way Why
way_of text =
    if bytes_eq text (codes "out") then Ok Way.Outbound
    else if bytes_eq text (codes "in") then Ok Way.Inbound
    else if bytes_eq text (codes "both") then Ok Way.Both
    else Err Why.NotInGrammar

abbrev pub ipsec_of : List ℕ → Result Ipsec Why
ipsec_of text =
    if bytes_eq text (codes "esp") then Ok Ipsec.Esp
    else if bytes_eq text (codes "ah") then Ok Ipsec.Ah
    else Err Why.NotInGrammar

abbrev pub mode_word_of : List ℕ → Result ModeWord Why
mode_word_of text =
    if bytes_eq text (codes "transport") then Ok ModeWord.Transport
    else if bytes_eq text (codes "tunnel") then Ok ModeWord.Tunnel
    else Err Why.NotInGrammar

-- The word of a protocol.
abbrev pub protocol_word_of : List ℕ → Result ProtocolItem Why
protocol_word_of text =
    if bytes_eq text (codes "any") then Ok ProtocolItem.Any
    else if bytes_eq text (codes "opaque") then Ok ProtocolItem.Opaque
    else Err Why.NotInGrammar

-- The number of a protocol, which takes one byte.
abbrev pub protocol_number_of : ℤ → Result ProtocolItem Why
protocol_number_of (pos number) = if nat_le number 255 then Ok (ProtocolItem.Number number) else Err Why.OutOfRange
protocol_number_of (negsuc number) = Err Why.OutOfRange

-- A protocol: its number, or a word.
abbrev pub protocol_item : Data → Result ProtocolItem Why
protocol_item (integer number) = protocol_number_of number
protocol_item (string text) = protocol_word_of text
protocol_item _ = Err Why.WrongKind
