-- The node that a line of a certificate writes.
use Rattle.std.specs.Prelude.{ℕ, ◌+◌, ◌==◌, ◌&&◌, List, length, bytes_eq, codes, Option, Some, None, option_map, option_and_then, if◌then◌else◌}
use Rattle.std.specs.Result.{result_ok}
use Rattle.sel_box.specs.declared.any_box.AxisName.{AxisName}
use Rattle.sel_box.specs.declared.any_box.AxisName.TheVariants.{Local, Remote, Protocol, LocalField, RemoteField}
use Rattle.sel_text.specs.declared.address.Address.{Address}
use Rattle.sel_text.specs.declared.family.Family.{Family}
use Rattle.sel_text.specs.Address.{address_meaning}
use Rattle.sel_text.specs.Family.{address_family, address_value, same_family}
use Rattle.sel_text.specs.Number.{number_meaning}
use Rattle.sel_text.specs.Parts.{cut}
use Rattle.sel_text.specs.Text.{address_text}
use Rattle.spd_line.specs.Policy.{most_lines}
use Rattle.cert_text.specs.declared.node.Node.{Node}

-- The number that a word is, where it is at most this.
abbrev pub number_word : ℕ → List ℕ → Option ℕ
number_word most word = result_ok (number_meaning most word)

-- A number that isn't 0.
abbrev pub positive : ℕ → Option ℕ
positive n = if n == 0 then None else Some n

-- The place of a line, counted from 1, that of `final` behind the most lines among them.
abbrev pub place_of : List ℕ → Option ℕ
place_of word = option_and_then positive (number_word (most_lines + 1) word)

-- An axis, as the gateway sees it from which the packets go out.
abbrev pub axis_of : List ℕ → Option AxisName
axis_of word =
    if bytes_eq word (codes "src") then Some Local
    else if bytes_eq word (codes "dst") then Some Remote
    else if bytes_eq word (codes "proto") then Some Protocol
    else if bytes_eq word (codes "sport") then Some LocalField
    else if bytes_eq word (codes "dport") then Some RemoteField else None

-- The number of an address that is of the family, and printed so.
abbrev pub printed_value : Family → List ℕ → Address → Option ℕ
printed_value family word address =
    if same_family (address_family address) family && bytes_eq (address_text address) word
    then Some (address_value address) else None

abbrev pub address_of : Family → List ℕ → Option ℕ
address_of family word = option_and_then (printed_value family word) (result_ok (address_meaning word))

-- The number that a word is on an axis: an address of the family, a protocol up to 255, a field up to 65535.
abbrev pub value_of : Family → AxisName → List ℕ → Option ℕ
value_of family Local word = address_of family word
value_of family Remote word = address_of family word
value_of family Protocol word = number_word 255 word
value_of family LocalField word = number_word 65535 word
value_of family RemoteField word = number_word 65535 word

-- `AXIS VALUE`
abbrev pub split_on : Family → List ℕ → AxisName → Option Node
split_on family value axis = option_map (λ value. Node.Split axis value) (value_of family axis value)

abbrev pub split_of : Family → List ℕ → List ℕ → Option Node
split_of family axis value = option_and_then (split_on family value) (axis_of axis)

-- `I J`
abbrev pub leaf_at : List ℕ → ℕ → Option Node
leaf_at b a = option_map (λ b. Node.Leaf a b) (place_of b)

abbrev pub leaf_of : List ℕ → List ℕ → Option Node
leaf_of a b = option_and_then (leaf_at b) (place_of a)

-- The node of a kind with two words behind it.
abbrev pub node_by : Family → List ℕ → List ℕ × List ℕ → Option Node
node_by family kind words =
    if bytes_eq kind (codes "split") then split_of family words.0 words.1
    else if bytes_eq kind (codes "leaf") then leaf_of words.0 words.1 else None

abbrev pub node_behind : Family → List ℕ × List ℕ → Option Node
node_behind family sides = option_and_then (node_by family sides.0) (cut 32 sides.1)

-- The node of some words with single spaces between them.
abbrev pub node_in : Family → List ℕ → Option Node
node_in family text =
    if bytes_eq text (codes "void") then Some Node.Void
    else option_and_then (node_behind family) (cut 32 text)

-- What a line has before its LF, where that ends it.
abbrev pub ended : List ℕ × List ℕ → Option (List ℕ)
ended sides = if length sides.1 == 0 then Some sides.0 else None

abbrev pub text_of : List ℕ → Option (List ℕ)
text_of line = option_and_then ended (cut 10 line)

-- The node of a line, in a tree of the family.
abbrev pub node_of : Family → List ℕ → Option Node
node_of family line = option_and_then (node_in family) (text_of line)
