-- A packet that is answered at once is answered as the machine does.
use Rattle.std.proofs.Common.{◌≡◌, ℕ, Bool, true, false, List, Option, Some, None, option_map, refl, ap, sym, subst, ◌∙◌, Ok, Err, Result, if◌then◌else◌}
use Rattle.std.specs.List.{list_any}
use Rattle.std.specs.Map.{keys_of, lookup_entry}
use Rattle.std.specs.Option.{is_some}
use Rattle.std.specs.Result.{IfOk, OnErr}
use Rattle.sel_box.specs.declared.packet.Direction.{Direction}
use Rattle.sel_box.specs.Packet.{PacketFields}
use Rattle.sel_box.specs.Point.{view_of}
use Rattle.spd_line.specs.declared.judgement.Answer.{Answer}
use Rattle.spd_line.specs.declared.line.LineParts.{LineParts}
use Rattle.spd_cache.specs.declared.key.Key.{Key}
use Rattle.spd_cache.specs.Cached.{Cached, Cell, first_hit, kept, to_front}
use Rattle.spd_cache.specs.Key.{same_key}
use Rattle.spd_cache.specs.KeyOf.{key_of}
use Rattle.spd_groups.specs.Groups.{IsGroup, answer_of, group_at}
use Rattle.spd_lanes.specs.declared.lane.LaneState.{LaneState}
use Rattle.spd_lanes.specs.declared.lane.PacketAnswer.{PacketAnswer}
use Rattle.spd_lanes.specs.Lane.{ask_step, ask_where}
use Rattle.spd_lanes.specs.Machine.{Machine, asked, put_in, used}
use Rattle.spd_lanes.specs.inner.Kept.{Keeps, shown}
use Rattle.spd_lanes.proofs.Cells.{All-fronted, All-kept, is_there, keys-fronted, keys-kept}
use Rattle.spd_lanes.proofs.Filling.{HaveTheirPoints}
use Rattle.spd_lanes.proofs.Following.{keeps-cells}

module _ (lines : List LineParts) (limit : ℕ) (cache : Cached) (lanes : List LaneState) (d : Direction) (p : PacketFields) where
  abbrev key : Key
  key = key_of d (view_of d p) lines

  abbrev m : Machine
  m = shown lines limit cache lanes

  abbrev hit_of : Option Cell → Option (Key × Answer)
  hit_of found = option_map (λ (cell : Cell). (cell.0, answer_of d (view_of d p) lines)) found

  -- the reply, and the machine with the cache after it
  abbrev after_ask : PacketAnswer × Cached → PacketAnswer × Machine
  after_ask r = (r.0, shown lines limit r.1 lanes)

  abbrev replied : Bool → List Key → PacketAnswer × Machine
  replied hit ks = (record { answer = answer_of d (view_of d p) lines; hit = hit }, record m { keys = ks })

  abbrev by_there : Bool → PacketAnswer × Machine
  by_there here = if here then replied true (used key m.keys) else replied false (put_in m.capacity key m.keys)

  by_cell : (found : Option Cell) → lookup_entry (same_key key) cache.entries ≡ found →
      by_there (list_any (same_key key) (keys_of cache.entries)) ≡ after_ask (ask_where d p lines cache (hit_of found))
  by_cell None at =
      ap by_there (is_there (same_key key) cache.entries ∙ ap is_some at)
      ∙ ap (replied false) (sym (keys-kept cache.capacity key (group_at lines key) cache.entries))
  by_cell (Some cell) at =
      ap by_there (is_there (same_key key) cache.entries ∙ ap is_some at)
      ∙ ap (replied true) (sym (keys-fronted key cache.entries cell at))

  pub asked-is : first_hit d (view_of d p) cache.entries ≡ hit_of (lookup_entry (same_key key) cache.entries) →
      asked d p m ≡ after_ask (ask_step d p lines cache)
  asked-is hits =
      by_cell (lookup_entry (same_key key) cache.entries) refl ∙ ap (λ (h : Option (Key × Answer)). after_ask (ask_where d p lines cache h)) (sym hits)

  -- what the machine keeps stands with the cache after it
  ask-keeps : HaveTheirPoints → Keeps lines cache.entries lanes → Keeps lines (ask_step d p lines cache).1.entries lanes
  ask-keeps points keeps = go (first_hit d (view_of d p) cache.entries)
    where
      go : (hit : Option (Key × Answer)) → Keeps lines (ask_where d p lines cache hit).1.entries lanes
      go None =
          keeps-cells lines cache.entries (kept cache.capacity key (group_at lines key) cache.entries) lanes keeps
          (All-kept (IsGroup lines) cache.capacity key (group_at lines key) cache.entries
          (record { is = refl; has = points d (view_of d p) lines keeps.policy })
          keeps.groups)
      go (Some hit) =
          keeps-cells lines cache.entries (to_front (same_key hit.0) cache.entries) lanes keeps
          (All-fronted (same_key hit.0) (IsGroup lines) cache.entries keeps.groups)

  pub asked-returns : {E : Type 0} → (result : Result PacketAnswer E) (new : Cached) → asked d p m ≡ after_ask (ask_step d p lines cache) →
      IfOk result (λ reply. ask_step d p lines cache ≡ (reply, new)) → IfOk result (λ reply. asked d p m ≡ (reply, shown lines limit new lanes))
  asked-returns (Ok reply) new is ok = is ∙ ap after_ask ok
  asked-returns (Err fault) new is ok = tt

  pub keeps-asked : {E : Type 0} → (result : Result PacketAnswer E) (new : Cached) → HaveTheirPoints → Keeps lines cache.entries lanes →
      IfOk result (λ reply. ask_step d p lines cache ≡ (reply, new)) → OnErr result (new ≡ cache) → Keeps lines new.entries lanes
  keeps-asked (Ok reply) new points keeps ok err = subst (λ (r : PacketAnswer × Cached). Keeps lines r.1.entries lanes) ok (ask-keeps points keeps)
  keeps-asked (Err fault) new points keeps ok err = rw err keeps
