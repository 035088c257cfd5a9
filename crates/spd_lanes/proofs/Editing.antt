-- An edit is that of the machine.
use Rattle.std.proofs.Common.{◌≡◌, ℕ, List, [], ◌∷◌, map, refl, ap, ap₂, ◌∙◌, Ok}
use Rattle.std.proofs.lemmas.List.{length-map}
use Rattle.std.proofs.lemmas.List.Elements.{All-map, All-nil}
use Rattle.spd_line.specs.declared.line.LineParts.{LineParts}
use Rattle.spd_line.specs.Policy.{IsPolicy}
use Rattle.spd_cache.specs.Cached.{Cached, cached}
use Rattle.spd_groups.specs.Groups.{IsGroup}
use Rattle.spd_lanes.specs.declared.edit.Edit.{Edit}
use Rattle.spd_lanes.specs.declared.lane.LaneState.{LaneState}
use Rattle.spd_lanes.specs.Machine.{Lane, edited, stale_lane, with_lines}
use Rattle.spd_lanes.specs.Policy.{changed_by, edited_lines}
use Rattle.spd_lanes.specs.inner.Kept.{IsLane, Keeps, seen, shown, unfresh}

-- No lane is fresh after an edit, as it is seen.
stale_seen : (lane : LaneState) → stale_lane (seen lane) ≡ seen (unfresh lane)
stale_seen LaneState.Idle = refl
stale_seen (LaneState.Missed d p) = refl
stale_seen (LaneState.Found d p answer key group fresh) = refl

stale_all : (lanes : List LaneState) → map stale_lane (map seen lanes) ≡ map seen (map unfresh lanes)
stale_all [] = refl
stale_all (lane ∷ lanes) = ap₂ (λ (l : Lane) (ls : List Lane). l ∷ ls) (stale_seen lane) (stale_all lanes)

-- A lane that isn't fresh holds what it holds.
unfresh_held : (lines : List LineParts) (lane : LaneState) → IsLane lines (unfresh lane)
unfresh_held lines LaneState.Idle = refl
unfresh_held lines (LaneState.Missed d p) = refl
unfresh_held lines (LaneState.Found d p answer key group fresh) = refl

module _ (lines new : List LineParts) (limit : ℕ) (cache : Cached) (lanes : List LaneState) where
  pub edited-is : (change : Edit) → edited_lines limit (changed_by change lines) ≡ Ok new →
      edited change (shown lines limit cache lanes) ≡ Ok (shown new limit (cached [] cache.capacity) (map unfresh lanes))
  edited-is change ok =
      ap (with_lines (shown lines limit cache lanes)) ok
      ∙ ap (λ (ls : List Lane). Ok (record { lines = new; limit = limit; capacity = cache.capacity; keys = []; lanes = ls })) (stale_all lanes)

  pub edit-keeps : IsPolicy new → Keeps lines cache.entries lanes → Keeps new [] (map unfresh lanes)
  edit-keeps policy keeps = record {
    policy = policy;
    groups = All-nil (IsGroup new);
    found = All-map (IsLane new) unfresh lanes (λ k d below. unfresh_held new _);
    sixteen = length-map lanes unfresh ∙ keeps.sixteen;
  }
