-- What is written of a valid certificate is read as its nodes.
use Rattle.std.proofs.Common.{◌≡◌, ℕ, ◌+◌, ◌≤◌, Bool, true, List, [], ◌∷◌, ◌++◌, map, codes, length, Option, Some, Ok, refl, sym, ap, ◌∙◌, arith}
use Rattle.std.specs.List.{concat}
use Rattle.std.proofs.lemmas.Bool.{and_parts}
use Rattle.std.proofs.lemmas.List.{length-append, length-map}
use Rattle.sel_box.specs.declared.any_box.AnyBox.{AnyBox}
use Rattle.sel_box.specs.declared.packet.Direction.{Direction}
use Rattle.sel_box.specs.declared.packet.Direction.TheVariants.{Outbound, Inbound}
use Rattle.sel_box.specs.Boxes.{family_of}
use Rattle.sel_text.specs.declared.family.Family.{Family}
use Rattle.sel_text.specs.Lines.{lines_of}
use Rattle.spd_line.specs.declared.line.LineParts.{LineParts}
use Rattle.spd_line.specs.LineBoxes.{final_list, line_boxes}
use Rattle.spd_line.specs.Policy.{most_lines}
use Rattle.cert_text.specs.declared.node.Node.{Node}
use Rattle.cert_text.specs.Certificate.{before, certificate_of, nodes_of_lines, opened, read_nodes, with_node}
use Rattle.cert_text.specs.Grammar.{node_of}
use Rattle.cert_text.specs.NodeText.{IsWritable, node_text}
use Rattle.cert_text.specs.Rows.{Row, a_rows, b_rows, rows_of, turned}
use Rattle.cert_text.specs.Valid.{holds, parts, valid, whole_boxes}
use Rattle.cert_check.proofs.Forms.{families_behind}
use Rattle.cert_make.specs.Text.{certificate_lines, certificate_text, node_lines}
use Rattle.cert_make.proofs.Writable.{AreWritable, valid-writable, whole_boxes-on}

-- What the laws of printed nodes say, as their crate promises it.
pub record NodeLaws : Type 0 where
  pub back : (family : Family) (node : Node) → IsWritable family node → node_of family (node_text family node) ≡ Some node
  pub line : (family : Family) (node : Node) (rest : List ℕ) → IsWritable family node
      → lines_of (node_text family node ++ rest) ≡ node_text family node ∷ lines_of rest

-- A policy has a row for each line, and one for `final`.
rows-length : (d : Direction) (lines : List LineParts) → length (rows_of d lines) ≡ length lines + 1
rows-length d lines = omega (arith, length-append (map (line_boxes d) lines) (final_list ∷ []), length-map {B = Row} lines (line_boxes d))

b_rows-length : (lines : List LineParts) → length (b_rows lines) ≡ length lines + 1
b_rows-length lines = length-map {B = Row} (rows_of Inbound lines) turned ∙ rows-length Inbound lines

module _ (laws : NodeLaws) where
  lines-back : (nodes : List Node) (boxes : List AnyBox) → AreWritable nodes boxes → lines_of (concat (node_lines nodes boxes)) ≡ node_lines nodes boxes
  lines-back [] boxes writable = refl
  lines-back (node ∷ nodes) [] writable = refl
  lines-back (node ∷ nodes) (b ∷ boxes) writable =
      laws.line (family_of b) node (concat (node_lines nodes (parts node b ++ boxes))) writable.0
      ∙ ap (λ (lines : List (List ℕ)). node_text (family_of b) node ∷ lines) (lines-back nodes (parts node b ++ boxes) writable.1)

  nodes-back : (test : Node → AnyBox → Bool) (number : ℕ) (nodes : List Node) (boxes : List AnyBox) → valid test nodes boxes ≡ true
      → AreWritable nodes boxes → read_nodes number (node_lines nodes boxes) (map family_of boxes) ≡ Ok nodes
  nodes-back test number [] [] all writable = refl
  nodes-back test number [] (b ∷ boxes) all writable = absurd cc
  nodes-back test number (node ∷ nodes) [] all writable = absurd cc
  nodes-back test number (node ∷ nodes) (b ∷ boxes) all writable =
      let lines = node_lines nodes (parts node b ++ boxes) in
      ap (λ (found : Option Node). with_node number found
      (λ node. read_nodes (number + 1) lines (opened node (family_of b) ++ map family_of boxes))) (laws.back (family_of b) node writable.0)
      ∙ ap (before node)
      (ap (read_nodes (number + 1) lines) (sym (families_behind node b boxes))
      ∙ nodes-back test (number + 1) nodes (parts node b ++ boxes) (and_parts (test node b) (valid test nodes (parts node b ++ boxes)) all).1 writable.1)

  -- The first line, and those of the nodes.
  certificate-lines : (nodes : List Node) → AreWritable nodes whole_boxes → lines_of (certificate_text nodes) ≡ certificate_lines nodes
  certificate-lines nodes writable =
      ap (λ (lines : List (List ℕ)). codes "agree\n" ∷ lines) (lines-back nodes whole_boxes writable)

  certificate-nodes : (test : Node → AnyBox → Bool) (nodes : List Node) → valid test nodes whole_boxes ≡ true → AreWritable nodes whole_boxes
      → nodes_of_lines (certificate_lines nodes) ≡ Ok nodes
  unfolding whole_boxes
  certificate-nodes test nodes all writable = nodes-back test 2 nodes whole_boxes all writable

  pub certificate-back : (a b : List LineParts) (nodes : List Node) → length a ≤ most_lines → length b ≤ most_lines
      → valid (holds (a_rows a) (b_rows b)) nodes whole_boxes ≡ true → certificate_of (certificate_text nodes) ≡ Ok nodes
  certificate-back a b nodes a_few b_few all =
      let writable = valid-writable (a_rows a) (b_rows b) (omega (arith, rows-length Outbound a)) (omega (arith, b_rows-length b)) nodes whole_boxes
      whole_boxes-on all in
      ap nodes_of_lines (certificate-lines nodes writable)
      ∙ certificate-nodes (holds (a_rows a) (b_rows b)) nodes all writable
