-- The nodes of a tree, one after another, are valid where the tree is.
use Rattle.std.proofs.Common.{◌≡◌, Bool, true, false, ◌&&◌, List, [], ◌∷◌, ◌++◌, Option, Some, None, refl, sym, ap, ◌∙◌, append_assoc, append-nil}
use Rattle.std.proofs.Math.Bool.{and_assoc}
use Rattle.std.specs.Option.{is_some}
use Rattle.sel_box.specs.declared.any_box.AnyBox.{AnyBox}
use Rattle.sel_box.specs.Bounds.{whole_box}
use Rattle.sel_text.specs.declared.family.Family.TheVariants.{Four, Six}
use Rattle.cert_text.specs.declared.node.Node.{Node}
use Rattle.cert_text.specs.Rows.{Row}
use Rattle.cert_text.specs.Split.{split_box}
use Rattle.cert_text.specs.Tree.{Tree, split, leaf, void, keeps, on_parts, preorder}
use Rattle.cert_text.specs.Valid.{holds, parts_by, valid, whole_boxes}

module _ (a b : List Row) where
  -- The nodes are valid over a box, before others over other boxes, exactly where the test of the box passes.
  abbrev pub AreValidWhere : (AnyBox → Bool) → List Node → Type 0
  AreValidWhere test nodes =
      (box : AnyBox) (more : List Node) (boxes : List AnyBox) → valid (holds a b) (nodes ++ more) (box ∷ boxes)
      ≡ (test box && valid (holds a b) more boxes)

  -- The trees over both parts of a box, after the split was tested.
  parts-valid : (low high : AnyBox → Bool) (lower upper : List Node) → AreValidWhere low lower → AreValidWhere high upper
      → (box : AnyBox) (cut : Option (AnyBox × AnyBox)) (more : List Node) (boxes : List AnyBox)
      → (is_some cut && valid (holds a b) ((lower ++ upper) ++ more) (parts_by box cut ++ boxes))
      ≡ (on_parts low high cut && valid (holds a b) more boxes)
  parts-valid low high lower upper is_low is_high box None more boxes = refl
  parts-valid low high lower upper is_low is_high box (Some parts) more boxes =
      ap (λ (nodes : List Node). valid (holds a b) nodes (parts.0 ∷ parts.1 ∷ boxes)) (append_assoc lower upper more)
      ∙ is_low parts.0 (upper ++ more) (parts.1 ∷ boxes)
      ∙ ap (λ rest. low parts.0 && rest) (is_high parts.1 more boxes)
      ∙ sym (and_assoc (low parts.0) (high parts.1) (valid (holds a b) more boxes))

  pub preorder-valid : (tree : Tree) → AreValidWhere (keeps a b tree) (preorder tree)
  preorder-valid (split axis value low high) box more boxes =
      parts-valid (keeps a b low) (keeps a b high) (preorder low) (preorder high) (preorder-valid low) (preorder-valid high)
      box (split_box axis value box) more boxes
  preorder-valid (leaf i j) box more boxes = refl
  preorder-valid void box more boxes = refl

  pub trees-valid : (four six : Tree) → valid (holds a b) (preorder four ++ preorder six) whole_boxes
      ≡ (keeps a b four (whole_box Four) && keeps a b six (whole_box Six))
  unfolding whole_boxes
  trees-valid four six =
      preorder-valid four (whole_box Four) (preorder six) (whole_box Six ∷ [])
      ∙ ap (λ rest. keeps a b four (whole_box Four) && rest)
      (ap (λ (nodes : List Node). valid (holds a b) nodes (whole_box Six ∷ [])) (sym (append-nil (preorder six)))
      ∙ preorder-valid six (whole_box Six) [] []
      ∙ and_true (keeps a b six (whole_box Six)))
    where
      and_true : (test : Bool) → (test && true) ≡ test
      and_true true = refl
      and_true false = refl
