-- A fill is that of the machine.
use Rattle.std.proofs.Common.{◌≡◌, ℕ, ◌<◌, true, false, List, length, get_or, refl, sym, subst, ap, ap₂, ◌∙◌, Ok, Result}
use Rattle.std.specs.Map.{keys_of}
use Rattle.std.proofs.lemmas.List.{map-set}
use Rattle.sel_box.specs.declared.packet.Direction.{Direction}
use Rattle.sel_box.specs.Packet.{PacketFields}
use Rattle.sel_box.specs.Point.{PointFields, view_of}
use Rattle.spd_line.specs.declared.judgement.Answer.{Answer}
use Rattle.spd_line.specs.declared.line.LineParts.{LineParts}
use Rattle.spd_line.specs.declared.line_boxes.LineBox.{LineBox}
use Rattle.spd_line.specs.Policy.{IsPolicy}
use Rattle.spd_cache.specs.declared.key.Key.{Key}
use Rattle.spd_cache.specs.Cached.{Cached, kept}
use Rattle.spd_cache.specs.KeyOf.{key_of}
use Rattle.spd_groups.specs.Groups.{HasItsPoints, IsGroup, group_at}
use Rattle.spd_lanes.specs.declared.fault.LaneFault.{LaneFault}
use Rattle.spd_lanes.specs.declared.lane.Filled.{Filled}
use Rattle.spd_lanes.specs.declared.lane.LaneState.{LaneState}
use Rattle.spd_lanes.specs.Lane.{fill_step}
use Rattle.spd_lanes.specs.Machine.{Lane, Machine, filled, filled_on}
use Rattle.spd_lanes.specs.inner.Kept.{IsLane, Keeps, seen, shown}
use Rattle.spd_lanes.proofs.Cells.{All-kept, keys-kept}
use Rattle.spd_lanes.proofs.Following.{KeepsAfter, after, keeps-with, seen_at}

-- What a lane has found.
abbrev key_in : Key → LaneState → Key
key_in default LaneState.Idle = default
key_in default (LaneState.Missed d p) = default
key_in default (LaneState.Found d p answer key group fresh) = key

abbrev group_in : List LineBox → LaneState → List LineBox
group_in default LaneState.Idle = default
group_in default (LaneState.Missed d p) = default
group_in default (LaneState.Found d p answer key group fresh) = group

-- The group of each point's key has that key's points.
abbrev pub HaveTheirPoints : Type 0
HaveTheirPoints = (d : Direction) (y : PointFields) (lines : List LineParts) → IsPolicy lines → HasItsPoints lines (key_of d y lines)

-- What a fresh lane holds is the group of its key, as what a search finds is.
pub group_held : HaveTheirPoints → (lines : List LineParts) → IsPolicy lines → (d : Direction) (p : PacketFields) (answer : Answer) (key : Key)
    (group : List LineBox) → IsLane lines (LaneState.Found d p answer key group true) → IsGroup lines (key, group)
group_held points lines policy d p answer key group found =
    let key_is : key_of d (view_of d p) lines ≡ key = ap (key_in key) found in
    let group_is : group_at lines (key_of d (view_of d p) lines) ≡ group = ap (group_in group) found in
    record {
      is = sym group_is ∙ ap (group_at lines) key_is;
      has = subst (HasItsPoints lines) key_is (points d (view_of d p) lines policy);
    }

module _ (lines : List LineParts) (limit : ℕ) (cache : Cached) (lanes : List LaneState) (place : ℕ) where
  abbrev m : Machine
  m = shown lines limit cache lanes

  abbrev with_keys : Filled → List Key → List Lane → Result (Filled × Machine) LaneFault
  with_keys reply ks ls = Ok (reply, record m { keys = ks; lanes = ls })

  pub filled-is : place < length lanes → (state : LaneState) → state ≡ get_or lanes place state →
      filled place m ≡ after lines limit lanes place (fill_step cache state)
  filled-is below state is = ap (λ (l : Lane). filled_on place l m) (seen_at lines limit cache lanes place state below is) ∙ by_state state
    where
      by_state : (state : LaneState) → filled_on place (seen state) m ≡ after lines limit lanes place (fill_step cache state)
      by_state LaneState.Idle = refl
      by_state (LaneState.Missed d p) = refl
      by_state (LaneState.Found d p answer key group true) =
          ap₂ (with_keys record { answer = answer; stale = false }) (sym (keys-kept cache.capacity key group cache.entries))
          (sym (map-set seen lanes place LaneState.Idle))
      by_state (LaneState.Found d p answer key group false) =
          ap (with_keys record { answer = answer; stale = true } (keys_of cache.entries)) (sym (map-set seen lanes place LaneState.Idle))

  pub fill-keeps : HaveTheirPoints → (state : LaneState) → IsLane lines state → Keeps lines cache.entries lanes →
      KeepsAfter lines lanes place (fill_step cache state)
  fill-keeps points LaneState.Idle held keeps = tt
  fill-keeps points (LaneState.Missed d p) held keeps = tt
  fill-keeps points (LaneState.Found d p answer key group true) held keeps =
      keeps-with lines cache.entries (kept cache.capacity key group cache.entries) lanes place LaneState.Idle keeps
      (All-kept (IsGroup lines) cache.capacity key group cache.entries (group_held points lines keeps.policy d p answer key group held) keeps.groups)
      refl
  fill-keeps points (LaneState.Found d p answer key group false) held keeps =
      keeps-with lines cache.entries cache.entries lanes place LaneState.Idle keeps keeps.groups refl
