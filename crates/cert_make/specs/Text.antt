-- The text of a certificate.
use Rattle.std.specs.Prelude.{ℕ, List, [], ◌∷◌, ◌++◌, codes}
use Rattle.std.specs.List.{concat}
use Rattle.sel_box.specs.declared.any_box.AnyBox.{AnyBox}
use Rattle.sel_box.specs.Boxes.{family_of}
use Rattle.cert_text.specs.declared.node.Node.{Node}
use Rattle.cert_text.specs.NodeText.{node_text}
use Rattle.cert_text.specs.Valid.{parts, whole_boxes}

-- The lines of some nodes over some boxes, one for each: an address is written in the family of its box.
abbrev pub node_lines : List Node → List AnyBox → List (List ℕ)
node_lines [] boxes = []
node_lines (node ∷ nodes) [] = []
node_lines (node ∷ nodes) (b ∷ boxes) = node_text (family_of b) node ∷ node_lines nodes (parts node b ++ boxes)

-- The text of the nodes of a certificate.
abbrev pub nodes_text : List Node → List ℕ
nodes_text nodes = concat (node_lines nodes whole_boxes)

-- The lines of a whole certificate, and its text.
abbrev pub certificate_lines : List Node → List (List ℕ)
certificate_lines nodes = codes "agree\n" ∷ node_lines nodes whole_boxes

abbrev pub certificate_text : List Node → List ℕ
certificate_text nodes = concat (certificate_lines nodes)
