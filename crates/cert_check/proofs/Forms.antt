-- The answer by what is left of a text.
use Rattle.std.proofs.Common.{◌≡◌, ℕ, ◌+◌, Bool, true, false, ◌&&◌, cond, List, [], ◌∷◌, ◌++◌, map, codes, Option, Some, None, Result, Ok, Err, refl, sym}
use Rattle.std.proofs.Common.{subst, ap, ap₂, ◌∙◌, ◌↔◌, arith}
use Rattle.std.specs.Option.{option_map}
use Rattle.std.specs.Str.{bytes_eq}
use Rattle.std.proofs.lemmas.List.{map-append}
use Rattle.sel_box.specs.declared.any_box.AnyBox.{AnyBox}
use Rattle.sel_box.specs.Boxes.{Ranges, box_from, family_of, ranges_of}
use Rattle.sel_text.specs.declared.family.Family.{Family}
use Rattle.sel_text.specs.declared.family.Family.TheVariants.{Four, Six}
use Rattle.cert_text.specs.declared.node.Node.{Node}
use Rattle.cert_text.specs.Certificate.{before, nodes_of_lines, opened, read_nodes, with_node}
use Rattle.cert_text.specs.Grammar.{node_of}
use Rattle.cert_text.specs.Split.{split_ranges}
use Rattle.cert_text.specs.Valid.{first_broken, parts, parts_by, valid, whole_boxes}
use Rattle.cert_check.specs.declared.answer.Checked.{Checked}
use Rattle.cert_check.specs.Answer.{by_nodes, checked}
use Rattle.cert_check.specs.inner.Steps.{answer_behind, answer_from, behind_agree, broken_by, broken_or, by_rest}

-- The parts of a box are of its family.

of_family : (family : Family) (r : Ranges) → family_of (box_from family r) ≡ family
of_family Four r = refl
of_family Six r = refl

parts_family : (b : AnyBox) (cut : Option (Ranges × Ranges))
    → map family_of (parts_by b (option_map (λ (parts : Ranges × Ranges). (box_from (family_of b) parts.0, box_from (family_of b) parts.1)) cut))
    ≡ family_of b ∷ family_of b ∷ []
parts_family b None = refl
parts_family b (Some parts) =
    ap₂ (λ (f g : Family). f ∷ g ∷ []) (of_family (family_of b) parts.0) (of_family (family_of b) parts.1)

pub parts-families : (node : Node) (b : AnyBox) → map family_of (parts node b) ≡ opened node (family_of b)
parts-families (Node.Split axis value) b = parts_family b (split_ranges axis value (ranges_of b))
parts-families (Node.Leaf i j) b = refl
parts-families Node.Void b = refl

pub families_behind : (node : Node) (b : AnyBox) (boxes : List AnyBox)
    → map family_of (parts node b ++ boxes) ≡ opened node (family_of b) ++ map family_of boxes
families_behind node b boxes =
    map-append family_of (parts node b) boxes ∙ ap (λ (families : List Family). families ++ map family_of boxes) (parts-families node b)

-- The first broken node of some, before which one more is known or judged.
broken_once : (broken : Option ℕ) (number : ℕ) (held : Bool) (later : Option ℕ)
    → broken_or broken (cond held later (Some number)) ≡ broken_or (broken_by broken number held) later
broken_once (Some node) number held later = refl
broken_once None number true later = refl
broken_once None number false later = refl

module _ (rule : Node → AnyBox → Bool) where
  -- One node more is done.
  node_done : (broken : Option ℕ) (done : ℕ) (node : Node) (b : AnyBox) (boxes : List AnyBox) (left : Result (List Node) ℕ)
      → by_rest rule broken done (b ∷ boxes) (before node left)
      ≡ by_rest rule (broken_by broken (done + 1) (rule node b)) (done + 1) (parts node b ++ boxes) left
  node_done broken done node b boxes (Err line) = refl
  node_done broken done node b boxes (Ok nodes) =
      ap (λ (found : Option ℕ). Ok (checked found))
      (broken_once broken (done + 1) (rule node b) (first_broken rule (done + 1 + 1) nodes (parts node b ++ boxes)))

  line_read : (broken : Option ℕ) (done number : ℕ) (node : Node) (b : AnyBox) (boxes : List AnyBox) (line : List ℕ) (lines : List (List ℕ))
      → number ≡ done + 2 → node_of (family_of b) line ≡ Some node
      → by_rest rule broken done (b ∷ boxes) (read_nodes number (line ∷ lines) (map family_of (b ∷ boxes)))
      ≡ by_rest rule (broken_by broken (done + 1) (rule node b)) (done + 1) (parts node b ++ boxes)
      (read_nodes (done + 1 + 2) lines (map family_of (parts node b ++ boxes)))
  line_read broken done number node b boxes line lines number_is is =
      let next : number + 1 ≡ done + 1 + 2 = omega arith in
      ap (λ (found : Option Node). by_rest rule broken done (b ∷ boxes)
      (with_node number found (λ node. read_nodes (number + 1) lines (opened node (family_of b) ++ map family_of boxes)))) is
      ∙ node_done broken done node b boxes (read_nodes (number + 1) lines (opened node (family_of b) ++ map family_of boxes))
      ∙ ap₂ (λ (n : ℕ) (families : List Family). by_rest rule (broken_by broken (done + 1) (rule node b)) (done + 1) (parts node b ++ boxes)
      (read_nodes n lines families)) next (sym (families_behind node b boxes))

  -- The next line is a node: it is taken from the lines, and its box is replaced by those of the trees behind it.
  pub answer_from-node : (broken broken' : Option ℕ) (done : ℕ) (node : Node) (b : AnyBox) (todo boxes boxes' : List AnyBox) (line : List ℕ)
      (rest lines : List (List ℕ)) → todo ≡ b ∷ boxes → rest ≡ line ∷ lines → Some node ≡ node_of (family_of b) line
      → broken' ≡ broken_by broken (done + 1) (rule node b) → boxes' ≡ parts node b ++ boxes
      → answer_from rule broken' (done + 1) boxes' lines ≡ answer_from rule broken done todo rest
  unfolding answer_from
  answer_from-node broken broken' done node b todo boxes boxes' line rest lines todo_is rest_is is broken_is boxes_is =
      ap₂ (λ (found : Option ℕ) (left : List AnyBox). by_rest rule found (done + 1) left (read_nodes (done + 1 + 2) lines (map family_of left)))
      broken_is boxes_is
      ∙ sym (line_read broken done (done + 2) node b boxes line lines refl (sym is))
      ∙ ap₂ (λ (left : List AnyBox) (text : List (List ℕ)). by_rest rule broken done left (read_nodes (done + 2) text (map family_of left)))
      (sym todo_is) (sym rest_is)

  -- It isn't in the grammar.
  pub answer_from-faulty : (broken : Option ℕ) (done : ℕ) (b : AnyBox) (todo boxes : List AnyBox) (line : List ℕ) (rest lines : List (List ℕ))
      → todo ≡ b ∷ boxes → rest ≡ line ∷ lines → None ≡ node_of (family_of b) line → answer_from rule broken done todo rest ≡ Err (done + 2)
  unfolding answer_from
  answer_from-faulty broken done b todo boxes line rest lines todo_is rest_is is =
      ap₂ (λ (left : List AnyBox) (text : List (List ℕ)). by_rest rule broken done left (read_nodes (done + 2) text (map family_of left)))
      todo_is rest_is
      ∙ ap (λ (found : Option Node). by_rest rule broken done (b ∷ boxes)
      (with_node (done + 2) found (λ node. read_nodes (done + 2 + 1) lines (opened node (family_of b) ++ map family_of boxes)))) (sym is)

  -- It is missing.
  pub answer_from-short : (broken : Option ℕ) (done : ℕ) (b : AnyBox) (todo boxes : List AnyBox) (rest : List (List ℕ))
      → todo ≡ b ∷ boxes → rest ≡ [] → answer_from rule broken done todo rest ≡ Err (done + 2)
  unfolding answer_from
  answer_from-short broken done b todo boxes rest todo_is rest_is =
      ap₂ (λ (left : List AnyBox) (text : List (List ℕ)). by_rest rule broken done left (read_nodes (done + 2) text (map family_of left)))
      todo_is rest_is

  -- It is one too many.
  pub answer_from-long : (broken : Option ℕ) (done : ℕ) (todo : List AnyBox) (line : List ℕ) (rest lines : List (List ℕ))
      → todo ≡ [] → rest ≡ line ∷ lines → answer_from rule broken done todo rest ≡ Err (done + 2)
  unfolding answer_from
  answer_from-long broken done todo line rest lines todo_is rest_is =
      ap₂ (λ (left : List AnyBox) (text : List (List ℕ)). by_rest rule broken done left (read_nodes (done + 2) text (map family_of left)))
      todo_is rest_is

  known_broken : (broken : Option ℕ) → broken_or broken None ≡ broken
  known_broken None = refl
  known_broken (Some node) = refl

  -- Both trees are whole, and the text ends.
  pub answer_from-done : (broken : Option ℕ) (done : ℕ) (todo : List AnyBox) (rest : List (List ℕ))
      → todo ≡ [] → rest ≡ [] → answer_from rule broken done todo rest ≡ Ok (checked broken)
  unfolding answer_from
  answer_from-done broken done todo rest todo_is rest_is =
      ap₂ (λ (left : List AnyBox) (text : List (List ℕ)). by_rest rule broken done left (read_nodes (done + 2) text (map family_of left)))
      todo_is rest_is
      ∙ ap (λ (found : Option ℕ). Ok (checked found)) (known_broken broken)

  by_rest-whole : (nodes : Result (List Node) ℕ) → by_rest rule None 0 whole_boxes nodes ≡ by_nodes rule nodes
  by_rest-whole (Err line) = refl
  by_rest-whole (Ok nodes) = refl

  -- Behind the first line stand the nodes of the certificate.
  pub by_nodes-behind : (lines : List (List ℕ)) (left : List (List ℕ)) → Some left ≡ behind_agree lines
      → by_nodes rule (nodes_of_lines lines) ≡ answer_behind rule left
  unfolding answer_from whole_boxes
  by_nodes-behind [] left is = absurd cc
  by_nodes-behind (first ∷ lines) left is = go (bytes_eq first (codes "agree\n")) is
    where
      go : (agrees : Bool) → Some left ≡ cond agrees (Some lines) None
          → by_nodes rule (cond agrees (read_nodes 2 lines (Four ∷ Six ∷ [])) (Err 1)) ≡ by_rest rule None 0 whole_boxes (read_nodes 2 left (Four ∷ Six ∷ []))
      go true same =
          let left_is : left ≡ lines = cc in
          sym (ap (λ (ls : List (List ℕ)). by_rest rule None 0 whole_boxes (read_nodes 2 ls (Four ∷ Six ∷ []))) left_is
          ∙ by_rest-whole (read_nodes 2 lines (Four ∷ Six ∷ [])))
      go false same = absurd cc

  -- A text whose first line is another is no certificate.
  pub by_nodes-other : (lines : List (List ℕ)) → None ≡ behind_agree lines → by_nodes rule (nodes_of_lines lines) ≡ Err 1
  by_nodes-other [] is = refl
  by_nodes-other (first ∷ lines) is = go (bytes_eq first (codes "agree\n")) is
    where
      go : (agrees : Bool) → None ≡ cond agrees (Some lines) None
          → by_nodes rule (cond agrees (read_nodes 2 lines (Four ∷ Six ∷ [])) (Err 1)) ≡ Err 1
      go true same = absurd cc
      go false same = refl

  -- Nodes that are whole trees over some boxes are valid exactly where none is broken.

  abbrev AreAlike : ℕ → List Node → List AnyBox → Type 0
  AreAlike from nodes boxes = (first_broken rule from nodes boxes ≡ None) ↔ (valid rule nodes boxes ≡ true)

  one_more : (held : Bool) (from : ℕ) (broken : Option ℕ) (all : Bool) → (broken ≡ None) ↔ (all ≡ true)
      → (cond held broken (Some from) ≡ None) ↔ ((held && all) ≡ true)
  one_more true from broken all alike = alike
  one_more false from broken all alike = (λ same. absurd cc, λ same. absurd cc)

  node_before : (node : Node) (left : Result (List Node) ℕ) (nodes : List Node) → before node left ≡ Ok nodes
      → (behind : List Node) × (left ≡ Ok behind) × (nodes ≡ node ∷ behind)
  node_before node (Err line) nodes same = absurd cc
  node_before node (Ok behind) nodes same = (behind, refl, cc)

  with_more : (number from : ℕ) (nodes : List Node) (b : AnyBox) (boxes : List AnyBox) (lines : List (List ℕ)) (found : Option Node)
      → with_node number found (λ node. read_nodes (number + 1) lines (opened node (family_of b) ++ map family_of boxes)) ≡ Ok nodes
      → ((node : Node) (behind : List Node) → read_nodes (number + 1) lines (opened node (family_of b) ++ map family_of boxes) ≡ Ok behind
      → AreAlike (from + 1) behind (parts node b ++ boxes))
      → AreAlike from nodes (b ∷ boxes)
  with_more number from nodes b boxes lines None same rest = absurd cc
  with_more number from nodes b boxes lines (Some node) same rest =
      let made = node_before node (read_nodes (number + 1) lines (opened node (family_of b) ++ map family_of boxes)) nodes same in
      subst (λ (ns : List Node). AreAlike from ns (b ∷ boxes)) (sym made.2)
      (one_more (rule node b) from (first_broken rule (from + 1) made.0 (parts node b ++ boxes)) (valid rule made.0 (parts node b ++ boxes))
      (rest node made.0 made.1))

  unbroken-valid : (number from : ℕ) (lines : List (List ℕ)) (boxes : List AnyBox) (nodes : List Node)
      → read_nodes number lines (map family_of boxes) ≡ Ok nodes → AreAlike from nodes boxes
  unbroken-valid number from [] [] nodes is =
      let none : [] ≡ nodes = cc in
      subst (λ (ns : List Node). AreAlike from ns []) none (λ same. refl, λ same. refl)
  unbroken-valid number from [] (b ∷ boxes) nodes is = absurd cc
  unbroken-valid number from (line ∷ lines) [] nodes is = absurd cc
  unbroken-valid number from (line ∷ lines) (b ∷ boxes) nodes is =
      with_more number from nodes b boxes lines (node_of (family_of b) line) is
      (λ node behind same. unbroken-valid (number + 1) (from + 1) lines (parts node b ++ boxes) behind
      (ap (read_nodes (number + 1) lines) (families_behind node b boxes) ∙ same))

  nodes_read : (lines : List (List ℕ)) (nodes : List Node) → nodes_of_lines lines ≡ Ok nodes
      → (left : List (List ℕ)) × (read_nodes 2 left (map family_of whole_boxes) ≡ Ok nodes)
  unfolding whole_boxes
  nodes_read [] nodes is = absurd cc
  nodes_read (first ∷ lines) nodes is = go (bytes_eq first (codes "agree\n")) is
    where
      go : (agrees : Bool) → cond agrees (read_nodes 2 lines (Four ∷ Six ∷ [])) (Err 1) ≡ Ok nodes
          → (left : List (List ℕ)) × (read_nodes 2 left (Four ∷ Six ∷ []) ≡ Ok nodes)
      go true same = (lines, same)
      go false same = absurd cc

  none_checked : (broken : Option ℕ) → ◌≡◌ {A = Result Checked ℕ} (Ok (checked broken)) (Ok Checked.Accepted) → broken ≡ None
  none_checked None same = refl
  none_checked (Some node) same = absurd cc

  -- The nodes of a certificate.
  pub record HasNodes (lines : List (List ℕ)) : Type 0 where
    pub nodes : List Node
    pub read : nodes_of_lines lines ≡ Ok nodes
    pub each : valid rule nodes whole_boxes ≡ true

  pub accepted-valid : (lines : List (List ℕ)) → by_nodes rule (nodes_of_lines lines) ≡ Ok Checked.Accepted → HasNodes lines
  accepted-valid lines is = go (nodes_of_lines lines) refl is
    where
      go : (found : Result (List Node) ℕ) → nodes_of_lines lines ≡ found → by_nodes rule found ≡ Ok Checked.Accepted → HasNodes lines
      go (Err line) read same = absurd cc
      go (Ok nodes) read same =
          let left = nodes_read lines nodes read in
          record {
            nodes = nodes;
            read = read;
            each = (unbroken-valid 2 1 left.0 whole_boxes nodes left.1).0 (none_checked (first_broken rule 1 nodes whole_boxes) same);
          }

  pub valid-accepted : (lines : List (List ℕ)) (nodes : List Node) → nodes_of_lines lines ≡ Ok nodes → valid rule nodes whole_boxes ≡ true
      → by_nodes rule (nodes_of_lines lines) ≡ Ok Checked.Accepted
  valid-accepted lines nodes read each =
      let left = nodes_read lines nodes read in
      ap (by_nodes rule) read
      ∙ ap (λ (broken : Option ℕ). Ok (checked broken)) ((unbroken-valid 2 1 left.0 whole_boxes nodes left.1).1 each)
