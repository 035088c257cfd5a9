-- A take is that of the machine.
use Rattle.std.proofs.Common.{◌≡◌, ℕ, ◌<◌, Bool, List, length, get_or, map, set, Option, Some, None, option_map, refl, sym, ap, ap₂, ◌∙◌, Ok, if◌then◌else◌}
use Rattle.std.specs.List.{list_any}
use Rattle.std.specs.Map.{keys_of, lookup_entry}
use Rattle.std.specs.Option.{is_some}
use Rattle.std.proofs.lemmas.List.{map-set, set-get_or}
use Rattle.sel_box.specs.declared.packet.Direction.{Direction}
use Rattle.sel_box.specs.Packet.{PacketFields}
use Rattle.sel_box.specs.Point.{view_of}
use Rattle.spd_line.specs.declared.judgement.Answer.{Answer}
use Rattle.spd_line.specs.declared.line.LineParts.{LineParts}
use Rattle.spd_cache.specs.declared.key.Key.{Key}
use Rattle.spd_cache.specs.Cached.{Cached, Cell, cached, first_hit, fronted, to_front}
use Rattle.spd_cache.specs.Key.{same_key}
use Rattle.spd_cache.specs.KeyOf.{key_of}
use Rattle.spd_groups.specs.Groups.{IsGroup, answer_of}
use Rattle.spd_lanes.specs.declared.lane.LaneState.{LaneState}
use Rattle.spd_lanes.specs.Lane.{after_hit, take_step}
use Rattle.spd_lanes.specs.Machine.{Lane, Machine, taken, taken_on, used, with_lane}
use Rattle.spd_lanes.specs.inner.Kept.{Keeps, seen, shown}
use Rattle.spd_lanes.proofs.Cells.{All-fronted, is_there, keys-fronted}
use Rattle.spd_lanes.proofs.Following.{KeepsAfter, after, keeps-with, seen_at}

module _ (lines : List LineParts) (limit : ℕ) (cache : Cached) (lanes : List LaneState) (place : ℕ) (d : Direction) (p : PacketFields) where
  abbrev key : Key
  key = key_of d (view_of d p) lines

  abbrev m : Machine
  m = shown lines limit cache lanes

  -- what the cache answers, by the group that is there
  abbrev hit_of : Option Cell → Option (Key × Answer)
  hit_of found = option_map (λ (cell : Cell). (cell.0, answer_of d (view_of d p) lines)) found

  abbrev taken_by : Option (Key × Answer) → Option Answer × Cached × LaneState
  taken_by hit =
      (option_map (λ (h : Key × Answer). h.1) hit, cached (fronted hit cache.entries) cache.capacity, after_hit d p hit)

  -- by cases on the group of the key
  abbrev by_there : Bool → Option Answer × Machine
  by_there here =
      if here
      then (Some (answer_of d (view_of d p) lines), record m { keys = used key m.keys })
      else (None, with_lane place (Lane.Missed d p) m)

  abbrev missed : List Lane → Option Answer × Machine
  missed ls = (None, record m { lanes = ls })

  module _ (idle : get_or lanes place LaneState.Idle ≡ LaneState.Idle) where
    stays : map seen (set lanes place LaneState.Idle) ≡ map seen lanes
    stays = ap (λ (l : LaneState). map seen (set lanes place l)) (sym idle) ∙ ap (map seen) (set-get_or lanes place LaneState.Idle)

    by_cell : (found : Option Cell) → lookup_entry (same_key key) cache.entries ≡ found →
        by_there (list_any (same_key key) (keys_of cache.entries))
        ≡ ((taken_by (hit_of found)).0, shown lines limit (taken_by (hit_of found)).1 (set lanes place (taken_by (hit_of found)).2))
    by_cell None at =
        ap by_there (is_there (same_key key) cache.entries ∙ ap is_some at)
        ∙ ap missed (sym (map-set seen lanes place (LaneState.Missed d p)))
    by_cell (Some cell) at =
        ap by_there (is_there (same_key key) cache.entries ∙ ap is_some at)
        ∙ ap₂ (λ (ks : List Key) (ls : List Lane). (Some (answer_of d (view_of d p) lines), record m { keys = ks; lanes = ls }))
        (sym (keys-fronted key cache.entries cell at)) (sym stays)

  module _ (hits : first_hit d (view_of d p) cache.entries ≡ hit_of (lookup_entry (same_key key) cache.entries)) (below : place < length lanes) where
    pub taken-is : (state : LaneState) → state ≡ get_or lanes place state →
        taken place d p m ≡ after lines limit lanes place (take_step d p cache state)
    taken-is state is = ap (λ (l : Lane). taken_on place d p l m) (seen_at lines limit cache lanes place state below is) ∙ by_state state is
      where
        by_state : (state : LaneState) → state ≡ get_or lanes place state →
            taken_on place d p (seen state) m ≡ after lines limit lanes place (take_step d p cache state)
        by_state LaneState.Idle is =
            ap Ok
            (by_cell (sym is) (lookup_entry (same_key key) cache.entries) refl
            ∙ ap (λ (h : Option (Key × Answer)). ((taken_by h).0, shown lines limit (taken_by h).1 (set lanes place (taken_by h).2))) (sym hits))
        by_state (LaneState.Missed e q) is = refl
        by_state (LaneState.Found e q answer k group fresh) is = refl

  pub take-keeps : (state : LaneState) → Keeps lines cache.entries lanes → KeepsAfter lines lanes place (take_step d p cache state)
  take-keeps LaneState.Idle keeps = go (first_hit d (view_of d p) cache.entries)
    where
      go : (hit : Option (Key × Answer)) → Keeps lines (fronted hit cache.entries) (set lanes place (after_hit d p hit))
      go None = keeps-with lines cache.entries cache.entries lanes place (LaneState.Missed d p) keeps keeps.groups refl
      go (Some hit) =
          keeps-with lines cache.entries (to_front (same_key hit.0) cache.entries) lanes place LaneState.Idle keeps
          (All-fronted (same_key hit.0) (IsGroup lines) cache.entries keeps.groups) refl
  take-keeps (LaneState.Missed e q) keeps = tt
  take-keeps (LaneState.Found e q answer k group fresh) keeps = tt
