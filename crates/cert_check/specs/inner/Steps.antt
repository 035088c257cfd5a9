-- The answer that is left in the middle of a text.
use Rattle.std.specs.Prelude.{ℕ, ◌+◌, Bool, List, [], ◌∷◌, bytes_eq, codes, map, Option, Some, None, Result, Ok, Err, if◌then◌else◌}
use Rattle.sel_box.specs.declared.any_box.AnyBox.{AnyBox}
use Rattle.sel_box.specs.Boxes.{family_of}
use Rattle.spd_line.specs.declared.judgement.Judgement.{Judgement}
use Rattle.cert_text.specs.declared.node.Node.{Node}
use Rattle.cert_text.specs.Certificate.{read_nodes}
use Rattle.cert_text.specs.Valid.{first_broken, rule_of, whole_boxes}
use Rattle.cert_check.specs.declared.answer.Checked.{Checked}
use Rattle.cert_rows.specs.declared.side.Side.{Side}
use Rattle.cert_check.specs.Answer.{checked}
use Rattle.cert_check.specs.inner.Scan.{scan}

-- How a line decides a box by a gateway's boxes, and whether a node holds of it by both.
abbrev pub decided_by : Side → ℕ → AnyBox → Option Judgement
decided_by side line b = scan line b side.regions side.marks.items

abbrev pub rule_by : Side → Side → Node → AnyBox → Bool
rule_by ours theirs = rule_of (decided_by ours) (decided_by theirs)

-- The first broken node, if it is known, or else this one.
abbrev pub broken_or : Option ℕ → Option ℕ → Option ℕ
broken_or (Some node) later = Some node
broken_or None later = later

-- The broken node behind one more node of this number.
abbrev pub broken_by : Option ℕ → ℕ → Bool → Option ℕ
broken_by broken number held = broken_or broken (if held then None else Some number)

-- The answer by the nodes that are left, over these boxes.
abbrev pub by_rest : (Node → AnyBox → Bool) → Option ℕ → ℕ → List AnyBox → Result (List Node) ℕ → Result Checked ℕ
by_rest rule broken done boxes (Err line) = Err line
by_rest rule broken done boxes (Ok nodes) = Ok (checked (broken_or broken (first_broken rule (done + 1) nodes boxes)))

-- The answer by the lines that are left, where so many nodes are done, trees over these boxes are to come, and the
-- first broken node is this, if one is known.
unfoldable pub answer_from : (Node → AnyBox → Bool) → Option ℕ → ℕ → List AnyBox → List (List ℕ) → Result Checked ℕ
answer_from rule broken done boxes lines =
    by_rest rule broken done boxes (read_nodes (done + 2) lines (map family_of boxes))

-- The answer by the lines behind the first.
abbrev pub answer_behind : (Node → AnyBox → Bool) → List (List ℕ) → Result Checked ℕ
answer_behind rule lines = answer_from rule None 0 whole_boxes lines

-- The lines behind the first, where that is `agree`.
abbrev pub behind_agree : List (List ℕ) → Option (List (List ℕ))
behind_agree [] = None
behind_agree (first ∷ lines) = if bytes_eq first (codes "agree\n") then Some lines else None
