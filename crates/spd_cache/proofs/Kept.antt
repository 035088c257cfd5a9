-- What `put` leaves is what a cache keeps.
use Rattle.std.proofs.Common.{◌≡◌, ℕ, zero, suc, ◌+◌, ◌-◌, ◌<◌, ◌≤◌, Bool, true, false, cond, List, [], ◌∷◌, length, take, Option}
use Rattle.std.proofs.Common.{Some, None, refl, sym, ap, ◌∙◌, arith}
use Rattle.std.specs.Map.{lookup_entry, remove_entry}
use Rattle.std.specs.Option.{option_map_or}
use Rattle.std.proofs.lemmas.List.{take_all}
use Rattle.lru.specs.LruCache.{LruCache, put_entries}
use Rattle.spd_line.specs.declared.line_boxes.LineBox.{LineBox}
use Rattle.spd_cache.specs.declared.key.Key.{Key}
use Rattle.spd_cache.specs.Cached.{Cell, kept}
use Rattle.spd_cache.specs.Key.{same_key}
use Rattle.spd_cache.specs.laws.Keys.{key_decides}

module _ {K V : Type 0} (test : K → Bool) where
  -- where no key passes, nothing is taken out
  remove_none : (es : List (K × V)) → lookup_entry test es ≡ None → remove_entry test es ≡ es
  remove_none [] none = refl
  remove_none (e ∷ es) none = go (test e.0) (remove_none es) none
    where
      go : (here : Bool) → (lookup_entry test es ≡ None → remove_entry test es ≡ es) → cond here (Some e) (lookup_entry test es) ≡ None →
          cond here es (e ∷ remove_entry test es) ≡ e ∷ es
      go true rest at = cc
      go false rest at = ap (λ (left : List (K × V)). e ∷ left) (rest at)

  -- where one does, it passes, and one entry less is left
  found_entry : (es : List (K × V)) (e : K × V) → lookup_entry test es ≡ Some e → (test e.0 ≡ true) × (length (remove_entry test es) + 1 ≡ length es)
  found_entry [] e at = cc
  found_entry (f ∷ es) e at = go (test f.0) refl (found_entry es e) at
    where
      go : (here : Bool) → test f.0 ≡ here →
          (lookup_entry test es ≡ Some e → (test e.0 ≡ true) × (length (remove_entry test es) + 1 ≡ length es)) →
          cond here (Some f) (lookup_entry test es) ≡ Some e →
          (test e.0 ≡ true) × (length (cond here es (f ∷ remove_entry test es)) + 1 ≡ length (f ∷ es))
      go true is rest at = let same : f ≡ e = cc in (ap (λ (g : K × V). test g.0) (sym same) ∙ is, omega arith)
      go false is rest at = let found = rest at in (found.0, omega (arith, found.1))

-- The entry of a key that is there stays under that key, and no other is dropped; another key's entry goes in before the rest.
pub put_kept : (c : LruCache Key (List LineBox)) (key : Key) (group : List LineBox) → length c.entries ≤ c.cap → 0 < c.cap →
    put_entries same_key c key group ≡ kept c.cap key group c.entries
put_kept c key group few some = go (lookup_entry (same_key key) c.entries) refl
  where
    go : (found : Option Cell) → lookup_entry (same_key key) c.entries ≡ found →
        option_map_or (λ (e : Cell). (e.0, group) ∷ remove_entry (same_key key) c.entries) found ((key, group) ∷ take (c.cap - 1) c.entries)
        ≡ take c.cap ((key, group) ∷ remove_entry (same_key key) c.entries)
    go None none = rw (remove_none (same_key key) c.entries none) (taken c.cap some)
      where
        taken : (n : ℕ) → 0 < n → (key, group) ∷ take (n - 1) c.entries ≡ take n ((key, group) ∷ c.entries)
        taken zero s = absurd (omega arith)
        taken (suc n) s = let e : suc n - 1 ≡ n = omega arith in rw e refl
    go (Some e) is =
        let found = found_entry (same_key key) c.entries e is in
        let same : key ≡ e.0 = (key_decides key e.0).0 found.0 in
        let all : take c.cap ((key, group) ∷ remove_entry (same_key key) c.entries) ≡ (key, group) ∷ remove_entry (same_key key) c.entries =
        take_all c.cap ((key, group) ∷ remove_entry (same_key key) c.entries) (omega (arith, found.1)) in
        ap (λ (k : Key). (k, group) ∷ remove_entry (same_key key) c.entries) (sym same) ∙ sym all
