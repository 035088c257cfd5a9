-- Which nodes hold of a box, and which certificates are valid.
use Rattle.std.specs.Prelude.{ℕ, ◌+◌, Bool, true, false, not, ◌&&◌, List, [], ◌∷◌, ◌++◌, Option, Some, None, if◌then◌else◌}
use Rattle.std.specs.Option.{is_some}
use Rattle.sel_box.specs.declared.any_box.AnyBox.{AnyBox}
use Rattle.sel_text.specs.declared.family.Family.TheVariants.{Four, Six}
use Rattle.sel_box.specs.Bounds.{whole_box}
use Rattle.sel_box.specs.SomePoint.{has_packet}
use Rattle.spd_line.specs.declared.judgement.Judgement.{Judgement}
use Rattle.spd_line.specs.Agree.{same_judgement}
use Rattle.cert_text.specs.declared.node.Node.{Node}
use Rattle.cert_text.specs.Rows.{Row, decided_at}
use Rattle.cert_text.specs.Split.{split_box}

-- Both judge, and alike.
abbrev pub both_same : Option Judgement → Option Judgement → Bool
both_same (Some a) (Some b) = same_judgement a b
both_same _ _ = false

-- The node holds of the box by what both sides say of a line and a box: a split cuts the box in two, the lines of a
-- leaf decide it and judge it alike, and where there is nothing to decide it has no packet.
abbrev pub rule_of : (ℕ → AnyBox → Option Judgement) → (ℕ → AnyBox → Option Judgement) → Node → AnyBox → Bool
rule_of ours theirs (Node.Split axis value) b = is_some (split_box axis value b)
rule_of ours theirs (Node.Leaf i j) b = both_same (ours i b) (theirs j b)
rule_of ours theirs Node.Void b = not (has_packet b)

-- The same of the rows of A and of B.
abbrev pub holds : List Row → List Row → Node → AnyBox → Bool
holds a b = rule_of (decided_at a) (decided_at b)

-- The boxes of the trees that come behind a split: its parts, or twice the box itself where it can't be cut.
abbrev pub parts_by : AnyBox → Option (AnyBox × AnyBox) → List AnyBox
parts_by b None = b ∷ b ∷ []
parts_by b (Some parts) = parts.0 ∷ parts.1 ∷ []

abbrev pub parts : Node → AnyBox → List AnyBox
parts (Node.Split axis value) b = parts_by b (split_box axis value b)
parts _ b = []

-- The boxes of a certificate's trees: all of IPv4, then all of IPv6.
unfoldable pub whole_boxes : List AnyBox
whole_boxes = whole_box Four ∷ whole_box Six ∷ []

-- The nodes are trees over the boxes, one for each, and each node holds.
abbrev pub valid : (Node → AnyBox → Bool) → List Node → List AnyBox → Bool
valid rule [] [] = true
valid rule [] (b ∷ boxes) = false
valid rule (node ∷ nodes) [] = false
valid rule (node ∷ nodes) (b ∷ boxes) = rule node b && valid rule nodes (parts node b ++ boxes)

-- The number of the first node that doesn't hold, where that of the first node is this.
abbrev pub first_broken : (Node → AnyBox → Bool) → ℕ → List Node → List AnyBox → Option ℕ
first_broken rule number [] boxes = None
first_broken rule number (node ∷ nodes) [] = None
first_broken rule number (node ∷ nodes) (b ∷ boxes) =
    if rule node b then first_broken rule (number + 1) nodes (parts node b ++ boxes) else Some number
