-- Where the group under a key doesn't answer, none under that key does.
use Rattle.std.proofs.Common.{◌≡◌, Bool, true, false, cond, List, [], ◌∷◌, Contains, Option, Some, None, IfSome, IfNone, option_map, refl, sym, subst, ap, ◌∙◌}
use Rattle.std.specs.List.{All, AllByRecursion, IsDistinct}
use Rattle.std.specs.Map.{keys_of, lookup, lookup_entry}
use Rattle.std.specs.Option.{option_and_then, option_or}
use Rattle.std.proofs.lemmas.Bool.{both_ways}
use Rattle.std.proofs.lemmas.List.Elements.{All-cons, All-contains, All-head, All-nil, All-tail}
use Rattle.lru.proofs.CallerLemmas.{IfSome-lookup_entry}
use Rattle.sel_box.specs.declared.packet.Direction.{Direction}
use Rattle.sel_box.specs.Point.{PointFields}
use Rattle.spd_line.specs.declared.judgement.Answer.{Answer}
use Rattle.spd_line.specs.declared.line_boxes.LineBox.{LineBox}
use Rattle.spd_cache.specs.declared.key.Key.{Key}
use Rattle.spd_cache.specs.Cached.{Cell, IsAnsweredAlike, first_hit, hit}
use Rattle.spd_cache.specs.Key.{same_key}
use Rattle.spd_cache.specs.inner.Under.{LacksUnder, hit_under}
use Rattle.spd_cache.specs.laws.Keys.{key_decides}

module _ (d : Direction) (x : PointFields) (key : Key) where
  abbrev Lacks : Cell → Type 0
  Lacks cell = same_key key cell.0 ≡ true → hit d x cell ≡ None

  -- keys that aren't one that is the same as this one aren't the same as this one
  others : (one : Key) (cells : List Cell) → same_key key one ≡ true → AllByRecursion (λ other. same_key one other ≡ false) (keys_of cells) →
      All Lacks cells
  others one [] same apart = All-nil Lacks
  others one (cell ∷ cells) same apart =
      All-cons Lacks cell cells
      (λ also. absurd (both_ways _ apart.0 ((key_decides one cell.0).1 (sym ((key_decides key one).0 same) ∙ (key_decides key cell.0).0 also))))
      (others one cells same apart.1)

  -- the group that is looked up under the key is that of the first cell of the key
  pub under_is : (cells : List Cell) → hit_under d x key cells ≡ option_and_then (λ (group : List LineBox). hit d x (key, group)) (lookup (same_key key) cells)
  under_is [] = refl
  under_is (cell ∷ cells) = go (same_key key cell.0) refl (under_is cells)
    where
      go : (here : Bool) → same_key key cell.0 ≡ here →
          hit_under d x key cells ≡ option_and_then (λ (group : List LineBox). hit d x (key, group)) (lookup (same_key key) cells) →
          option_and_then (hit d x) (cond here (Some cell) (lookup_entry (same_key key) cells))
          ≡ option_and_then (λ (group : List LineBox). hit d x (key, group)) (cond here (Some cell.1) (lookup (same_key key) cells))
      go true is later = ap (λ (one : Key). hit d x (one, cell.1)) (sym ((key_decides key cell.0).0 is))
      go false is later = later

  -- what is answered under the key is the first answer, where all answer alike
  pub alike_under : (cells : List Cell) → IsAnsweredAlike d x cells → (answer : Answer) → hit_under d x key cells ≡ Some (key, answer) →
      first_hit d x cells ≡ Some (key, answer)
  alike_under cells alike answer is = go (lookup_entry (same_key key) cells) (IfSome-lookup_entry (same_key key) cells) is
    where
      go : (found : Option Cell) → IfSome found (Contains cells) → option_and_then (hit d x) found ≡ Some (key, answer) →
          first_hit d x cells ≡ Some (key, answer)
      go None among is = cc
      go (Some cell) among is =
          subst (λ (here : Option (Key × Answer)). IfSome here (λ (found : Key × Answer). first_hit d x cells ≡ Some found)) is
          (All-contains (λ (c : Cell). IfSome (hit d x c) (λ (found : Key × Answer). first_hit d x cells ≡ Some found)) cells cell alike among)

  pub lacks_under : (cells : List Cell) → IsDistinct same_key (keys_of cells) → hit_under d x key cells ≡ None → LacksUnder d x cells key
  unfolding IsDistinct
  lacks_under [] distinct none = All-nil Lacks
  lacks_under (cell ∷ cells) distinct none = go (same_key key cell.0) refl (lacks_under cells distinct.1) none
    where
      go : (here : Bool) → same_key key cell.0 ≡ here → (hit_under d x key cells ≡ None → All Lacks cells) →
          option_and_then (hit d x) (cond here (Some cell) (lookup_entry (same_key key) cells)) ≡ None → All Lacks (cell ∷ cells)
      go true is later none = All-cons Lacks cell cells (λ same. none) (others cell.0 cells is distinct.0)
      go false is later none = All-cons Lacks cell cells (λ same. absurd (both_ways _ is same)) (later none)

  -- so where what is answered under it is nothing
  pub lacks_where : (cells : List Cell) (answer : Option Answer) → IsDistinct same_key (keys_of cells) →
      option_map (λ (found : Answer). (key, found)) answer ≡ hit_under d x key cells → IfNone answer (LacksUnder d x cells key)
  lacks_where cells None distinct is = lacks_under cells distinct (sym is)
  lacks_where cells (Some answer) distinct is = tt

-- What is known of the group that is passed over is so of the first of the groups that are left, and of the others.
module _ (d : Direction) (x : PointFields) (passed : Option Key) (cell : Cell) (cells : List Cell) where
  pub lacks-head : (all : List Cell) → all ≡ cell ∷ cells → IfSome passed (LacksUnder d x all) →
      IfSome passed (λ key. same_key key cell.0 ≡ true → hit d x cell ≡ None)
  lacks-head all is lacks = go passed (subst (λ (left : List Cell). IfSome passed (LacksUnder d x left)) is lacks)
    where
      go : (one : Option Key) → IfSome one (LacksUnder d x (cell ∷ cells)) → IfSome one (λ key. same_key key cell.0 ≡ true → hit d x cell ≡ None)
      go None lacks = tt
      go (Some key) lacks = All-head (Lacks d x key) cell cells lacks

  pub lacks-tail : (all : List Cell) → all ≡ cell ∷ cells → IfSome passed (LacksUnder d x all) → IfSome passed (LacksUnder d x cells)
  lacks-tail all is lacks = go passed (subst (λ (left : List Cell). IfSome passed (LacksUnder d x left)) is lacks)
    where
      go : (one : Option Key) → IfSome one (LacksUnder d x (cell ∷ cells)) → IfSome one (LacksUnder d x cells)
      go None lacks = tt
      go (Some key) lacks = All-tail (Lacks d x key) cell cells lacks

  pub first_later : (all : List Cell) → all ≡ cell ∷ cells → hit d x cell ≡ None → first_hit d x cells ≡ first_hit d x all
  first_later all is none =
      ap (λ (here : Option (Key × Answer)). option_or here (first_hit d x cells)) (sym none) ∙ ap (first_hit d x) (sym is)
