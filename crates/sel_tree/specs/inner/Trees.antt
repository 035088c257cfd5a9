-- The trees of an index: what their nodes say of the list of boxes that they were made for.
use Rattle.std.specs.Prelude.{◌≡◌, ◌==◌, ℕ, ◌≤◌, ◌<◌, Bool, true, List, length, min, slice_index_or}
use Rattle.std.specs.List.{AllWithin, list_any}
use Rattle.sel_box.specs.declared.any_box.AnyBox.{AnyBox}
use Rattle.sel_box.specs.Boxes.{Ranges}
use Rattle.sel_box.specs.BoxRegion.{box_within}
use Rattle.sel_tree.specs.declared.trees.Node.{Node}
use Rattle.sel_tree.specs.FirstMet.{meets}

-- the box at the index lies in the node's hull, and the index from the node's least to its greatest
pub record Covers {R : Type 0} (box_of : R → AnyBox) (regions : List AnyBox) (node : Node R) (index : ℕ) : Type 0 where
  pub listed : index < length regions
  pub least : node.least ≤ index
  pub greatest : index ≤ node.greatest
  pub within : (d : AnyBox) → box_within (slice_index_or regions index d) (box_of node.hull) ≡ true

-- the node at the place covers the boxes of all nodes from there to the place that it skips to, which is further
pub record IsNodeAt {R : Type 0} (box_of : R → AnyBox) (regions : List AnyBox) (nodes : List (Node R)) (place : ℕ) (node : Node R) : Type 0 where
  pub skips : place < node.skip
  pub covers : AllWithin (λ below. Covers box_of regions node below.entry) nodes place (min node.skip (length nodes))

-- each node before a place does
abbrev pub AreNodes : {R : Type 0} → (R → AnyBox) → List AnyBox → List (Node R) → ℕ → Type 0
AreNodes {R} box_of regions nodes end = (k : ℕ) (d : Node R) → k < end → IsNodeAt box_of regions nodes k (slice_index_or nodes k d)

-- each node does
pub record IsTree {R : Type 0} (box_of : R → AnyBox) (regions : List AnyBox) (nodes : List (Node R)) : Type 0 where
  pub are_nodes : AreNodes box_of regions nodes (length nodes)

-- some node has the index
abbrev pub has_entry : {R : Type 0} → List (Node R) → ℕ → Bool
has_entry nodes index = list_any (λ node. node.entry == index) nodes

-- some node of the tree of the box's family has the index
abbrev pub has_entry_of : List (Node Ranges) → List (Node Ranges) → AnyBox → ℕ → Bool
has_entry_of four six (AnyBox.Four _) index = has_entry four index
has_entry_of four six (AnyBox.Six _) index = has_entry six index

-- each box before an index has a node in the tree of its family
abbrev pub AreAllPlaced : List AnyBox → List (Node Ranges) → List (Node Ranges) → ℕ → Type 0
AreAllPlaced regions four six end = (k : ℕ) (d : AnyBox) → k < end → has_entry_of four six (slice_index_or regions k d) k ≡ true

-- both trees are trees over the list, and the first boxes, so many, stand in them
pub record IsIndex (regions : List AnyBox) (four six : List (Node Ranges)) (placed : ℕ) : Type 0 where
  pub four_tree : IsTree AnyBox.Four regions four
  pub six_tree : IsTree AnyBox.Six regions six
  pub listed : placed ≤ length regions
  pub all_placed : AreAllPlaced regions four six placed

-- an index, from an index on, of a box that meets the region, or the length of the list
pub record IsMetOrLen (regions : List AnyBox) (from : ℕ) (region : AnyBox) (index : ℕ) : Type 0 where
  pub within : index ≤ length regions
  pub after : index < length regions → from ≤ index
  pub met : (d : AnyBox) → index < length regions → meets region (slice_index_or regions index d) ≡ true

-- if the box at the index is from an index on and meets the region, the best index so far isn't greater
abbrev pub IsNoLess : List AnyBox → ℕ → AnyBox → ℕ → ℕ → Type 0
IsNoLess regions from region best index =
    (d : AnyBox) → from ≤ index → meets region (slice_index_or regions index d) ≡ true → best ≤ index
