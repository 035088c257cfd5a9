-- What the text of a certificate is.
use Rattle.std.specs.Prelude.{ℕ, ◌+◌, List, [], ◌∷◌, ◌++◌, bytes_eq, codes, Option, Some, None, Result, Ok, Err, if◌then◌else◌}
use Rattle.sel_text.specs.declared.family.Family.{Family}
use Rattle.sel_text.specs.declared.family.Family.TheVariants.{Four, Six}
use Rattle.sel_text.specs.Lines.{lines_of}
use Rattle.cert_text.specs.declared.node.Node.{Node}
use Rattle.cert_text.specs.Grammar.{node_of}

-- The families of the trees that come behind a node of a family: two behind a split, and else none.
abbrev pub opened : Node → Family → List Family
opened (Node.Split axis value) family = family ∷ family ∷ []
opened _ family = []

-- A node before others.
abbrev pub before : Node → Result (List Node) ℕ → Result (List Node) ℕ
before node (Ok nodes) = Ok (node ∷ nodes)
before node (Err line) = Err line

-- Goes on with the node of the line of that number.
abbrev pub with_node : ℕ → Option Node → (Node → Result (List Node) ℕ) → Result (List Node) ℕ
with_node number None others = Err number
with_node number (Some node) others = before node (others node)

-- The nodes of some lines, where these are whole trees of some families, one after another; or else the number of the
-- first line that isn't in the grammar, that is missing, or that is one too many. The first line has this number.
abbrev pub read_nodes : ℕ → List (List ℕ) → List Family → Result (List Node) ℕ
read_nodes number [] [] = Ok []
read_nodes number [] (family ∷ families) = Err number
read_nodes number (line ∷ lines) [] = Err number
read_nodes number (line ∷ lines) (family ∷ families) =
    with_node number (node_of family line) (λ node. read_nodes (number + 1) lines (opened node family ++ families))

-- The nodes behind the first line, which is `agree`: a tree for IPv4, and then one for IPv6.
abbrev pub nodes_of_lines : List (List ℕ) → Result (List Node) ℕ
nodes_of_lines [] = Err 1
nodes_of_lines (first ∷ lines) =
    if bytes_eq first (codes "agree\n") then read_nodes 2 lines (Four ∷ Six ∷ []) else Err 1

-- The nodes of a certificate, or the number of the first line, counted from 1, that isn't one of a certificate.
abbrev pub certificate_of : List ℕ → Result (List Node) ℕ
certificate_of text = nodes_of_lines (lines_of text)
