-- The trees that a rule makes, where each part of a box is smaller than the box.
use Rattle.std.proofs.Common.{◌≡◌, ℕ, zero, suc, ◌<◌, Bool, true, ◌&&◌, List, [], ◌∷◌, ◌++◌, flat_map, refl, sym, ap, ap₂, ◌∙◌, append_assoc, arith}
use Rattle.std.specs.List.{AllByRecursion}
use Rattle.std.proofs.lemmas.List.Concat.{flat_map-append}
use Rattle.sel_box.specs.declared.any_box.AnyBox.{AnyBox}
use Rattle.cert_text.specs.declared.node.Node.{Node}
use Rattle.cert_text.specs.Valid.{parts, valid}
use Rattle.cert_make.specs.Trees.{nodes_within}

module _ (rule : AnyBox → Node) (size : AnyBox → ℕ)
    (smaller : (b : AnyBox) → AllByRecursion (λ p. size p < size b) (parts (rule b) b))
  where
    -- More levels than a box is large add nothing.

    same-each : (n m bound : ℕ) (boxes : List AnyBox) → AllByRecursion (λ p. size p < bound) boxes
        → ((p : AnyBox) → size p < bound → nodes_within rule n p ≡ nodes_within rule m p)
        → flat_map (nodes_within rule n) boxes ≡ flat_map (nodes_within rule m) boxes
    same-each n m bound [] small same = refl
    same-each n m bound (b ∷ boxes) small same =
        ap₂ (λ (here later : List Node). here ++ later) (same b small.0) (same-each n m bound boxes small.1 same)

    enough : (n m : ℕ) (b : AnyBox) → size b < n → size b < m → nodes_within rule n b ≡ nodes_within rule m b
    enough zero m b first second = absurd (omega arith)
    enough (suc n) zero b first second = absurd (omega arith)
    enough (suc n) (suc m) b first second =
        ap (λ (more : List Node). rule b ∷ more)
        (same-each n m (size b) (parts (rule b) b) (smaller b) (λ p less. enough n m p (omega arith) (omega arith)))

    abbrev pub tree_over : AnyBox → List Node
    tree_over b = nodes_within rule (suc (size b)) b

    below : (n : ℕ) (boxes : List AnyBox) → AllByRecursion (λ p. size p < n) boxes
        → flat_map (nodes_within rule n) boxes ≡ flat_map tree_over boxes
    below n [] small = refl
    below n (b ∷ boxes) small =
        ap₂ (λ (here later : List Node). here ++ later) (enough n (suc (size b)) b small.0 (omega arith)) (below n boxes small.1)

    -- The first node is that of the first box, and behind it come the trees over its parts.
    pub trees-step : (b : AnyBox) (boxes : List AnyBox)
        → flat_map tree_over (b ∷ boxes) ≡ rule b ∷ flat_map tree_over (parts (rule b) b ++ boxes)
    trees-step b boxes =
        ap (λ (more : List Node). rule b ∷ (more ++ flat_map tree_over boxes)) (below (size b) (parts (rule b) b) (smaller b))
        ∙ ap (λ (more : List Node). rule b ∷ more) (sym (flat_map-append tree_over (parts (rule b) b) boxes))

    -- Where each node holds of its box, the nodes are valid.
    module _ (holds : Node → AnyBox → Bool) (each : (b : AnyBox) → holds (rule b) b ≡ true) where
      abbrev AreDone : ℕ → AnyBox → Type 0
      AreDone n b =
          (more : List Node) (boxes : List AnyBox) → valid holds (nodes_within rule n b ++ more) (b ∷ boxes) ≡ valid holds more boxes

      valid-each : (n bound : ℕ) (parts : List AnyBox) → AllByRecursion (λ p. size p < bound) parts
          → ((p : AnyBox) → size p < bound → AreDone n p) → (more : List Node) (boxes : List AnyBox)
          → valid holds (flat_map (nodes_within rule n) parts ++ more) (parts ++ boxes) ≡ valid holds more boxes
      valid-each n bound [] small one more boxes = refl
      valid-each n bound (b ∷ parts) small one more boxes =
          ap (λ (nodes : List Node). valid holds nodes (b ∷ (parts ++ boxes)))
          (append_assoc (nodes_within rule n b) (flat_map (nodes_within rule n) parts) more)
          ∙ one b small.0 (flat_map (nodes_within rule n) parts ++ more) (parts ++ boxes)
          ∙ valid-each n bound parts small.1 one more boxes

      valid-within : (n : ℕ) (b : AnyBox) → size b < n → AreDone n b
      valid-within zero b less more boxes = absurd (omega arith)
      valid-within (suc n) b less more boxes =
          ap (λ (here : Bool). here && valid holds (flat_map (nodes_within rule n) (parts (rule b) b) ++ more) (parts (rule b) b ++ boxes)) (each b)
          ∙ valid-each n (size b) (parts (rule b) b) (smaller b) (λ p small. valid-within n p (omega arith)) more boxes

      pub trees-valid : (boxes : List AnyBox) → valid holds (flat_map tree_over boxes) boxes ≡ true
      trees-valid [] = refl
      trees-valid (b ∷ boxes) = valid-within (suc (size b)) b (omega arith) (flat_map tree_over boxes) boxes ∙ trees-valid boxes
