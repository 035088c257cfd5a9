-- The keys of a cache, and what holds of each group, after a look and after a group was kept.
use Rattle.std.proofs.Common.{◌≡◌, ℕ, Bool, true, false, cond, ◌||◌, List, [], ◌∷◌, take, Option, Some, None, refl, sym, subst, ap, ◌∙◌}
use Rattle.std.specs.List.{All, list_any}
use Rattle.std.specs.Map.{keys_of, lookup_entry, remove_entry}
use Rattle.std.specs.Option.{is_some, option_map_or}
use Rattle.std.specs.Set.{remove_key}
use Rattle.std.proofs.lemmas.List.{take-map}
use Rattle.std.proofs.lemmas.List.Elements.{All-cons, All-head, All-tail, All-take}
use Rattle.spd_line.specs.declared.line_boxes.LineBox.{LineBox}
use Rattle.spd_cache.specs.declared.key.Key.{Key}
use Rattle.spd_cache.specs.Cached.{Cell, kept, to_front}
use Rattle.spd_cache.specs.Key.{same_key}
use Rattle.spd_cache.specs.laws.Keys.{key_decides}
use Rattle.spd_lanes.specs.Machine.{put_in, used}

module _ (test : Key → Bool) where
  -- a key is there exactly where its group is
  pub is_there : (cells : List Cell) → list_any test (keys_of cells) ≡ is_some (lookup_entry test cells)
  is_there [] = refl
  is_there (cell ∷ cells) = go (test cell.0) (is_there cells)
    where
      go : (here : Bool) → list_any test (keys_of cells) ≡ is_some (lookup_entry test cells) →
          (here || list_any test (keys_of cells)) ≡ is_some (cond here (Some cell) (lookup_entry test cells))
      go true rest = refl
      go false rest = rest

  -- a group that is found passes
  pub passes : (cells : List Cell) (found : Cell) → lookup_entry test cells ≡ Some found → test found.0 ≡ true
  passes [] found at = cc
  passes (cell ∷ cells) found at = go (test cell.0) refl (passes cells found) at
    where
      go : (here : Bool) → test cell.0 ≡ here → (lookup_entry test cells ≡ Some found → test found.0 ≡ true) →
          cond here (Some cell) (lookup_entry test cells) ≡ Some found → test found.0 ≡ true
      go true is rest at = let same : cell ≡ found = cc in ap (λ (c : Cell). test c.0) (sym same) ∙ is
      go false is rest at = rest at

  pub keys-removed : (cells : List Cell) → keys_of (remove_entry test cells) ≡ remove_key test (keys_of cells)
  keys-removed [] = refl
  keys-removed (cell ∷ cells) = go (test cell.0) (keys-removed cells)
    where
      go : (here : Bool) → keys_of (remove_entry test cells) ≡ remove_key test (keys_of cells) →
          keys_of (cond here cells (cell ∷ remove_entry test cells)) ≡ cond here (keys_of cells) (cell.0 ∷ remove_key test (keys_of cells))
      go true rest = refl
      go false rest = ap (λ (ks : List Key). cell.0 ∷ ks) rest

  module _ (P : Cell → Type 0) where
    pub All-removed : (cells : List Cell) → All P cells → All P (remove_entry test cells)
    All-removed [] all = all
    All-removed (cell ∷ cells) all =
        go (test cell.0) (All-removed cells (All-tail P cell cells all))
      where
        go : (here : Bool) → All P (remove_entry test cells) → All P (cond here cells (cell ∷ remove_entry test cells))
        go true rest = All-tail P cell cells all
        go false rest = All-cons P cell (remove_entry test cells) (All-head P cell cells all) rest

    pub All-found : (cells : List Cell) (found : Cell) → All P cells → lookup_entry test cells ≡ Some found → P found
    All-found [] found all at = cc
    All-found (cell ∷ cells) found all at = go (test cell.0) (All-found cells found (All-tail P cell cells all)) at
      where
        go : (here : Bool) → (lookup_entry test cells ≡ Some found → P found) → cond here (Some cell) (lookup_entry test cells) ≡ Some found → P found
        go true rest at = let same : cell ≡ found = cc in subst P same (All-head P cell cells all)
        go false rest at = rest at

    pub All-fronted : (cells : List Cell) → All P cells → All P (to_front test cells)
    All-fronted cells all = go (lookup_entry test cells) refl
      where
        go : (found : Option Cell) → lookup_entry test cells ≡ found → All P (option_map_or (λ (cell : Cell). cell ∷ remove_entry test cells) found cells)
        go None at = all
        go (Some found) at = All-cons P found (remove_entry test cells) (All-found cells found all at) (All-removed cells all)

-- The keys after a group that is there was used.
pub keys-fronted : (key : Key) (cells : List Cell) (found : Cell) → lookup_entry (same_key key) cells ≡ Some found →
    keys_of (to_front (same_key found.0) cells) ≡ used key (keys_of cells)
keys-fronted key cells found at =
    let same : key ≡ found.0 = (key_decides key found.0).0 (passes (same_key key) cells found at) in
    ap (λ (k : Key). keys_of (to_front (same_key k) cells)) (sym same)
    ∙ ap (λ (o : Option Cell). keys_of (option_map_or (λ (cell : Cell). cell ∷ remove_entry (same_key key) cells) o cells)) at
    ∙ ap (λ (k : Key). k ∷ keys_of (remove_entry (same_key key) cells)) (sym same)
    ∙ ap (λ (ks : List Key). key ∷ ks) (keys-removed (same_key key) cells)

-- The keys after a group was kept.
pub keys-kept : (capacity : ℕ) (key : Key) (group : List LineBox) (cells : List Cell) →
    keys_of (kept capacity key group cells) ≡ put_in capacity key (keys_of cells)
keys-kept capacity key group cells =
    sym (take-map (λ (cell : Cell). cell.0) capacity ((key, group) ∷ remove_entry (same_key key) cells))
    ∙ ap (λ (ks : List Key). take capacity (key ∷ ks)) (keys-removed (same_key key) cells)

pub All-kept : (P : Cell → Type 0) (capacity : ℕ) (key : Key) (group : List LineBox) (cells : List Cell) →
    P (key, group) → All P cells → All P (kept capacity key group cells)
All-kept P capacity key group cells new all =
    All-take P capacity ((key, group) ∷ remove_entry (same_key key) cells)
    (All-cons P (key, group) (remove_entry (same_key key) cells) new (All-removed (same_key key) P cells all))
