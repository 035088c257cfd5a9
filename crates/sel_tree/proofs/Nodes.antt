-- The steps of the loops over nodes and boxes.
use Rattle.std.proofs.Common.{◌≡◌, ◌==◌, ℕ, ◌+◌, ◌<◌, ◌≤◌, Bool, true, false, not, List, length, max, min, get_or, Option, Some, None}
use Rattle.std.proofs.Common.{inl, inr, refl, sym, ap, subst, ◌∙◌, arith}
use Rattle.std.specs.Bool.{OnTrue}
use Rattle.std.specs.List.{AllWithin, list_any}
use Rattle.std.proofs.lemmas.Bool.{both_ways, cases_Bool, cases_lt, eqb-true}
use Rattle.std.proofs.lemmas.List.{get_or_default}
use Rattle.std.proofs.lemmas.List.Folds.{Any-from_list_any}
use Rattle.sel_box.specs.declared.any_box.AnyBox.{AnyBox}
use Rattle.sel_tree.specs.declared.trees.Node.{Node}
use Rattle.sel_tree.specs.FirstMet.{NoneMet, meets}
use Rattle.sel_tree.specs.inner.Trees.{AreNodes, Covers, IsMetOrLen, IsNodeAt, IsNoLess, has_entry}
use Rattle.sel_tree.proofs.Hulls.{hull-meets}

-- an item that was read is the one at its index, whatever stands past the end
pub at_default : {A : Type 0} (xs : List A) (i : ℕ) (x d : A) → i < length xs → x ≡ get_or xs i x → x ≡ get_or xs i d
at_default xs i x d below is = is ∙ get_or_default xs i x d below

pub are_nodes_more : {R : Type 0} (box_of : R → AnyBox) (regions : List AnyBox) (nodes : List (Node R)) (place : ℕ) (node : Node R) →
    place < length nodes → node ≡ get_or nodes place node → AreNodes box_of regions nodes place → IsNodeAt box_of regions nodes place node →
    AreNodes box_of regions nodes (place + 1)
are_nodes_more {R} box_of regions nodes place node below is before here = λ k d lt.
    elim (cases_lt k place) as (λ _. IsNodeAt box_of regions nodes k (get_or nodes k d)) [
      | inl earlier ↦ before k d earlier
      | inr later ↦
          let same : place ≡ k = omega arith in
          subst (λ (n : ℕ). IsNodeAt box_of regions nodes n (get_or nodes n d)) same
          (subst (λ (n : Node R). IsNodeAt box_of regions nodes place n) (at_default nodes place node d below is) here)
    ]

-- what doesn't meet a node's hull meets no box that the node covers
pub passed_by_hull : {R : Type 0} (box_of : R → AnyBox) (node : Node R) (from best : ℕ) (region : AnyBox) (met : Bool) →
    met ≡ meets region (box_of node.hull) →
    OnTrue (not met) ((regions : List AnyBox) (k : ℕ) → Covers box_of regions node k → IsNoLess regions from region best k)
passed_by_hull box_of node from best region true is = tt
passed_by_hull box_of node from best region false is = λ regions k covers d after met.
    absurd (both_ways (meets region (box_of node.hull)) (sym is)
    (hull-meets (get_or regions k d) (box_of node.hull) region (covers.within d) met))

-- where no node has a lesser index that is looked for, no index that a node has is one
pub no_less-from_nodes : {R : Type 0} (regions : List AnyBox) (nodes : List (Node R)) (from : ℕ) (region : AnyBox) (best end k : ℕ) →
    length nodes ≤ end → AllWithin (λ node. IsNoLess regions from region best node.entry) nodes 0 (min end (length nodes)) →
    has_entry nodes k ≡ true → IsNoLess regions from region best k
no_less-from_nodes {R} regions nodes from region best end k past all has =
    let any = Any-from_list_any (λ (node : Node R). node.entry == k) nodes has in
    let here = all any.0 any.1 (omega arith) (omega (arith, any.2)) in
    let there = subst (λ (node : Node R). IsNoLess regions from region best node.entry) any.3 here in
    subst (λ (n : ℕ). IsNoLess regions from region best n) (eqb-true any.1.entry k any.4) there

-- What is known of two scans and of the trees between them.
module _ (regions : List AnyBox) (region : AnyBox) (from near few count placed first : ℕ)
    (none_near : NoneMet from near region regions) (past : few ≤ near)
    (placed_met : IsMetOrLen regions few region placed)
    (none_placed : (k : ℕ) → k < count → IsNoLess regions few region placed k)
    (below : first ≤ placed)
    (none_behind : NoneMet (max few count) first region regions)
  where
    pub none_before : NoneMet from first region regions
    none_before = λ k d low high.
        elim (cases_lt k near) as (λ _. meets region (get_or regions k d) ≡ false) [
          | inl early ↦ none_near k d low early
          | inr late ↦ elim (cases_lt k count) as (λ _. meets region (get_or regions k d) ≡ false) [
            | inl in_trees ↦ elim (cases_Bool (meets region (get_or regions k d))) as (λ _. meets region (get_or regions k d) ≡ false) [
              | inl met ↦ absurd (omega (arith, none_placed k in_trees d (omega arith) met))
              | inr lacks ↦ lacks
            ]
            | inr behind ↦ none_behind k d (omega arith) high
          ]
        ]

    module _ (start : min from (length regions) ≤ few) (within : first < length regions)
        (first_after : first < placed → max few count ≤ first)
        (first_met : (d : AnyBox) → first < placed → meets region (get_or regions first d) ≡ true)
      where
        pub after_first : from ≤ first
        after_first = elim (cases_lt first placed) as (λ _. from ≤ first) [
          | inl earlier ↦ omega (arith, first_after earlier)
          | inr same ↦ omega (arith, placed_met.after (omega (arith, placed_met.within)))
        ]

        pub meets_first : (d : AnyBox) → meets region (get_or regions first d) ≡ true
        meets_first d = elim (cases_lt first placed) as (λ _. meets region (get_or regions first d) ≡ true) [
          | inl earlier ↦ first_met d earlier
          | inr same ↦
              let is : placed ≡ first = omega arith in
              subst (λ (n : ℕ). meets region (get_or regions n d) ≡ true) is (placed_met.met d (omega arith))
        ]
