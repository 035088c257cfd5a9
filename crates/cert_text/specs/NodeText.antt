-- How the nodes of a certificate are written.
use Rattle.std.specs.Prelude.{ℕ, ◌+◌, ◌≤◌, min, List, ◌++◌, codes, decimal}
use Rattle.sel_box.specs.declared.any_box.AxisName.{AxisName}
use Rattle.sel_box.specs.declared.any_box.AxisName.TheVariants.{Local, Remote, Protocol, LocalField, RemoteField}
use Rattle.sel_text.specs.declared.family.Family.{Family}
use Rattle.sel_text.specs.Family.{address_from, last_address}
use Rattle.sel_text.specs.Text.{address_text}
use Rattle.spd_line.specs.Policy.{most_lines}
use Rattle.cert_text.specs.declared.node.Node.{Node}

-- The word of an axis, as the gateway sees it from which the packets go out.
abbrev pub axis_text : AxisName → List ℕ
axis_text Local = codes "src"
axis_text Remote = codes "dst"
axis_text Protocol = codes "proto"
axis_text LocalField = codes "sport"
axis_text RemoteField = codes "dport"

-- An address of the family, at most its last.
abbrev pub address_words : Family → ℕ → List ℕ
address_words family value = address_text (address_from family (min value (last_address family)))

-- A number on an axis: an address of the family, a protocol or a field.
abbrev pub value_text : Family → AxisName → ℕ → List ℕ
value_text family Local value = address_words family value
value_text family Remote value = address_words family value
value_text family Protocol value = decimal value
value_text family LocalField value = decimal value
value_text family RemoteField value = decimal value

-- The words of a node.
abbrev pub node_words : Family → Node → List ℕ
node_words family (Node.Split axis value) =
    codes "split " ++ (axis_text axis ++ (codes " " ++ value_text family axis value))
node_words family (Node.Leaf a b) = codes "leaf " ++ (decimal a ++ (codes " " ++ decimal b))
node_words family Node.Void = codes "void"

-- Its line.
abbrev pub node_text : Family → Node → List ℕ
node_text family node = node_words family node ++ codes "\n"

-- The greatest number that a line may have on an axis: OPAQUE, behind it, is never below the high of a range.
abbrev pub last_written : Family → AxisName → ℕ
last_written family Local = last_address family
last_written family Remote = last_address family
last_written family Protocol = 255
last_written family LocalField = 65535
last_written family RemoteField = 65535

-- The place of a line, that of `final` behind the most lines among them.
abbrev pub IsPlace : ℕ → Type 0
IsPlace place = (1 ≤ place) × (place ≤ most_lines + 1)

-- The numbers of a node are those that a line may have.
abbrev pub IsWritable : Family → Node → Type 0
IsWritable family (Node.Split axis value) = value ≤ last_written family axis
IsWritable family (Node.Leaf a b) = IsPlace a × IsPlace b
IsWritable family Node.Void = Unit {0}
