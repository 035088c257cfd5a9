-- The regions of some blocks, where one block is changed, taken out or parted.
use Rattle.std.proofs.Common.{◌≡◌, ℕ, suc, ◌+◌, ◌<◌, ◌≤◌, List, [], ◌∷◌, ◌++◌, length, map, take, drop, set, get_or}
use Rattle.std.proofs.Common.{refl, sym, ap, ap₂, ◌∙◌, append_assoc, arith}
use Rattle.std.specs.Prelude.{insert, remove}
use Rattle.std.proofs.lemmas.List.{append-nil, drop_all, drop_at, length-take-le, set_split, set-get_or}
use Rattle.std.proofs.lemmas.List.{take-append-drop, take-append-le, take-take, take_all, take_at}
use Rattle.std.proofs.lemmas.List.Edits.{length-insert}
use Rattle.std.proofs.lemmas.List.Concat.{flat_map-append}
use Rattle.sel_region.specs.Cutting.{cut_each}
use Rattle.sel_blocks.specs.Joined.{joined}

-- what is left of each block's regions is left of all
pub joined-cut : {R : Type 0} (minus : R → R → List R) (other : R) (blocks : List (List R)) →
    joined (map (λ block. cut_each minus block other) blocks) ≡ cut_each minus (joined blocks) other
joined-cut minus other [] = refl
joined-cut minus other (block ∷ blocks) =
    ap (λ rest. cut_each minus block other ++ rest) (joined-cut minus other blocks)
    ∙ sym (flat_map-append (λ piece. minus piece other) block (joined blocks))

-- one more block at the end
pub joined-push : {R : Type 0} (blocks : List (List R)) (block : List R) → joined (blocks ++ block ∷ []) ≡ joined blocks ++ block
joined-push blocks block =
    flat_map-append (λ b. b) blocks (block ∷ []) ∙ ap (λ rest. joined blocks ++ rest) (append-nil block)

-- one block put in another's place
joined-set : {R : Type 0} (blocks : List (List R)) (i : ℕ) (block : List R) → i < length blocks →
    joined (set blocks i block) ≡ joined (take i blocks) ++ (block ++ joined (drop (suc i) blocks))
joined-set blocks i block below =
    ap joined (set_split blocks i block below) ∙ flat_map-append (λ b. b) (take i blocks) (block ∷ drop (suc i) blocks)

-- so the regions stand about a block
joined-at : {R : Type 0} (blocks : List (List R)) (i : ℕ) (block : List R) → i < length blocks → block ≡ get_or blocks i block →
    joined blocks ≡ joined (take i blocks) ++ (block ++ joined (drop (suc i) blocks))
joined-at blocks i block below is =
    ap joined (sym (set-get_or blocks i block) ∙ ap (set blocks i) (sym is)) ∙ joined-set blocks i block below

-- the last block has some regions more
pub joined-set_last : {R : Type 0} (blocks : List (List R)) (i : ℕ) (block : List R) (more : List R) →
    i < length blocks → length blocks ≤ i + 1 → block ≡ get_or blocks i block →
    joined (set blocks i (block ++ more)) ≡ joined blocks ++ more
joined-set_last blocks i block more below last is =
    let none : drop (suc i) blocks ≡ [] = drop_all (suc i) blocks (omega arith) in
    joined-set blocks i (block ++ more) below
    ∙ ap (λ rest. joined (take i blocks) ++ ((block ++ more) ++ joined rest)) none
    ∙ ap (λ rest. joined (take i blocks) ++ rest) (append-nil (block ++ more))
    ∙ sym (append_assoc (joined (take i blocks)) block more)
    ∙ ap (λ rest. (joined (take i blocks) ++ rest) ++ more) (sym (append-nil block) ∙ ap (λ rest. block ++ joined rest) (sym none))
    ∙ ap (λ all. all ++ more) (sym (joined-at blocks i block below is))

-- a block without regions is taken out
pub joined-remove : {R : Type 0} (blocks : List (List R)) (i : ℕ) (block : List R) → i < length blocks → block ≡ get_or blocks i block →
    block ≡ [] → joined (remove blocks i) ≡ joined blocks
joined-remove blocks i block below is empty =
    flat_map-append (λ b. b) (take i blocks) (drop (suc i) blocks)
    ∙ ap (λ here. joined (take i blocks) ++ (here ++ joined (drop (suc i) blocks))) (sym empty)
    ∙ sym (joined-at blocks i block below is)

-- a block is parted in two
pub joined-parted : {R : Type 0} (blocks : List (List R)) (i : ℕ) (block front back : List R) →
    i < length blocks → block ≡ get_or blocks i block → front ++ back ≡ block →
    joined (set (insert blocks (i + 1) back) i front) ≡ joined blocks
joined-parted {R} blocks i block front back below is parts =
    joined-set more i front (omega (arith, length-insert blocks (i + 1) back (omega arith)))
    ∙ ap₂ (λ before after. joined before ++ (front ++ joined after)) before after
    ∙ ap (λ here. joined (take i blocks) ++ here) (sym (append_assoc front back (joined (drop (i + 1) blocks))))
    ∙ ap₂ (λ (here : List R) (n : ℕ). joined (take i blocks) ++ (here ++ joined (drop n blocks))) parts next
    ∙ sym (joined-at blocks i block below is)
  where
    more : List (List R)
    more = insert blocks (i + 1) back

    next : i + 1 ≡ suc i
    next = omega arith

    before : take i more ≡ take i blocks
    before =
        take-append-le i (take (i + 1) blocks) (back ∷ drop (i + 1) blocks) (omega (arith, length-take-le (i + 1) blocks (omega arith)))
        ∙ take-take i (i + 1) blocks (omega arith)

    after : drop (suc i) more ≡ back ∷ drop (i + 1) blocks
    after = drop_at (take (i + 1) blocks) (back ∷ drop (i + 1) blocks) (suc i)
        (length-take-le (i + 1) blocks (omega arith) ∙ next)

-- all blocks are cut where no other is left
pub cut_all_blocks : {R : Type 0} (f : List R → List R) (cut blocks : List (List R)) (i n : ℕ) → cut ≡ map f (take i blocks) ++ drop i blocks →
    length blocks ≤ i → length cut ≡ n → take n (cut ++ drop (length cut) blocks) ≡ map f blocks
cut_all_blocks f cut blocks i n is past counted =
    take_at cut (drop (length cut) blocks) n counted
    ∙ is
    ∙ ap₂ (λ before rest. map f before ++ rest) (take_all i blocks past) (drop_all i blocks past)
    ∙ append-nil (map f blocks)

-- and no other than the first ones where cutting broke off
pub cut_first_blocks : {R : Type 0} (f : List R → List R) (cut blocks : List (List R)) (i n : ℕ) (block : List R) →
    cut ≡ map f (take i blocks) ++ drop i blocks → block ≡ get_or cut i block → length cut ≡ n →
    take n (set cut i block ++ drop (length (set cut i block)) blocks) ≡ map f (take i blocks) ++ drop i blocks
cut_first_blocks f cut blocks i n block is same counted =
    let kept : set cut i block ≡ cut = ap (set cut i) same ∙ set-get_or cut i block in
    ap (λ left. take n (left ++ drop (length left) blocks)) kept ∙ take_at cut (drop (length cut) blocks) n counted ∙ is

-- the first blocks' regions are the first regions
pub joined-cut_first : {R : Type 0} (minus : R → R → List R) (other : R) (blocks : List (List R)) (i : ℕ) →
    joined (map (λ block. cut_each minus block other) (take i blocks) ++ drop i blocks)
    ≡ cut_each minus (take (length (joined (take i blocks))) (joined blocks)) other ++ drop (length (joined (take i blocks))) (joined blocks)
joined-cut_first minus other blocks i =
    flat_map-append (λ b. b) (map (λ block. cut_each minus block other) (take i blocks)) (drop i blocks)
    ∙ ap₂ (λ cut rest. cut ++ rest)
    (joined-cut minus other (take i blocks) ∙ ap (λ front. cut_each minus front other) (sym (ap (take n) parts ∙ take_at _ _ n refl)))
    (sym (ap (drop n) parts ∙ drop_at _ _ n refl))
  where
    n : ℕ
    n = length (joined (take i blocks))

    parts : joined blocks ≡ joined (take i blocks) ++ joined (drop i blocks)
    parts = ap joined (sym (take-append-drop i blocks)) ∙ flat_map-append (λ b. b) (take i blocks) (drop i blocks)
