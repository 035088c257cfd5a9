-- Runs of the shared machine over lists of events, and what is served in them.
use Rattle.std.specs.Prelude.{◌≡◌, ℕ, ◌≤◌, ◌==◌, Bool, true, false, All, List, [], ◌∷◌, length, Option, Some, None, Result, Ok, Err, if◌then◌else◌}
use Rattle.std.specs.List.{list_any}
use Rattle.sel_box.specs.declared.packet.Direction.{Direction}
use Rattle.sel_box.specs.Packet.{PacketFields}
use Rattle.sel_box.specs.Point.{view_of}
use Rattle.spd_line.specs.declared.judgement.Answer.{Answer}
use Rattle.spd_line.specs.declared.line.LineParts.{LineParts}
use Rattle.spd_cache.specs.declared.key.Key.{Key}
use Rattle.spd_cache.specs.Key.{same_key}
use Rattle.spd_cache.specs.KeyOf.{key_of}
use Rattle.spd_groups.specs.Groups.{answer_of}
use Rattle.spd_lanes.specs.declared.edit.Edit.{Edit}
use Rattle.spd_lanes.specs.declared.fault.EditFault.{EditFault}
use Rattle.spd_lanes.specs.declared.fault.LaneFault.{LaneFault}
use Rattle.spd_lanes.specs.declared.lane.Filled.{Filled}
use Rattle.spd_lanes.specs.declared.lane.PacketAnswer.{PacketAnswer}
use Rattle.spd_lanes.specs.Machine.{Lane, Machine, asked, edited, filled, lane_at, searched, taken}

-- The five events: a packet at once, the three steps of a lookup in a lane, and an edit.
pub data Event : Type 0 where
  AtOnce : Direction → PacketFields → Event
  Take : ℕ → Direction → PacketFields → Event
  Search : ℕ → Event
  Fill : ℕ → Event
  Change : Edit → Event

pub data Reply : Type 0 where
  Asked : PacketAnswer → Reply
  Taken : Option Answer → Reply
  Searched : Answer → Reply
  Filling : Filled → Reply
  Edited : Reply

pub data Refusal : Type 0 where
  OfLane : LaneFault → Refusal
  OfEdit : EditFault → Refusal

-- The reply of an event of a lane, and of an edit.
abbrev pub of_lane : {A : Type 0} → (A → Reply) → Result (A × Machine) LaneFault → Result (Reply × Machine) Refusal
of_lane reply (Ok r) = Ok (reply r.0, r.1)
of_lane reply (Err fault) = Err (OfLane fault)

abbrev pub of_edit : Result Machine EditFault → Result (Reply × Machine) Refusal
of_edit (Ok m) = Ok (Edited, m)
of_edit (Err fault) = Err (OfEdit fault)

-- One event: its reply and the machine after it, or why it is refused, and then nothing has changed.
abbrev pub step : Event → Machine → Result (Reply × Machine) Refusal
step (AtOnce d p) m = Ok (Asked (asked d p m).0, (asked d p m).1)
step (Take place d p) m = of_lane Taken (taken place d p m)
step (Search place) m = of_lane Searched (searched place m)
step (Fill place) m = of_lane Filling (filled place m)
step (Change change) m = of_edit (edited change m)

-- What is noted in a run: the policy at a lane's last search, whether no edit came since, and whether none came since the search of the fill that put a key in.
pub record Notes : Type 0 where
  pub policy_at : ℕ → Option (List LineParts)
  pub current : ℕ → Bool
  pub put : Key → Bool

abbrev pub no_notes : Notes
no_notes = record { policy_at = λ _. None; current = λ _. false; put = λ _. false }

-- A key is put in.
abbrev pub put_note : Key → Bool → Notes → Notes
put_note key since n =
    record { policy_at = n.policy_at; current = n.current; put = λ other. if same_key key other then since else n.put other }

-- A packet that is no hit puts its key in, after a search at once.
abbrev pub asked_note : Bool → Key → Notes → Notes
asked_note true key n = n
asked_note false key n = put_note key true n

-- A lane is searched.
abbrev pub search_note : ℕ → List LineParts → Notes → Notes
search_note place lines n = record {
  policy_at = λ other. if other == place then Some lines else n.policy_at other;
  current = λ other. if other == place then true else n.current other;
  put = n.put;
}

-- A fill of a fresh lane puts its key in.
abbrev pub fill_note : ℕ → Lane → Notes → Notes
fill_note place Lane.Idle n = n
fill_note place (Lane.Missed d p) n = n
fill_note place (Lane.Found d p answer key true) n = put_note key (n.current place) n
fill_note place (Lane.Found d p answer key false) n = n

-- What an event adds to the notes, by the machine before it.
abbrev pub noted : Event → Machine → Notes → Notes
noted (AtOnce d p) m n =
    let key = key_of d (view_of d p) m.lines in
    asked_note (list_any (same_key key) m.keys) key n
noted (Take place d p) m n = n
noted (Search place) m n = search_note place m.lines n
noted (Fill place) m n = fill_note place (lane_at place m) n
noted (Change change) m n = record { policy_at = n.policy_at; current = λ _. false; put = λ _. false }

-- A run: the replies up to the first refusal, that refusal, and the machine and the notes after the last event that wasn't refused.
pub record Ran : Type 0 where
  pub replies : List Reply
  pub refused : Option Refusal
  pub machine : Machine
  pub notes : Notes

abbrev pub with_step : Result (Reply × Machine) Refusal → Machine → Notes → (Machine → Ran) → Ran
with_step (Ok r) m n more =
    let rest = more r.1 in
    record { replies = r.0 ∷ rest.replies; refused = rest.refused; machine = rest.machine; notes = rest.notes }
with_step (Err refusal) m n more = record { replies = []; refused = Some refusal; machine = m; notes = n }

abbrev pub run : List Event → Machine → Notes → Ran
run [] m n = record { replies = []; refused = None; machine = m; notes = n }
run (event ∷ events) m n = with_step (step event m) m n (λ after. run events after (noted event m n))

-- An answer is that of the first line under the policy at the lane's last search.
pub record IsAsSearched (n : Notes) (place : ℕ) (d : Direction) (p : PacketFields) (answer : Answer) : Type 0 where
  pub lines : List LineParts
  pub in_force : n.policy_at place ≡ Some lines
  pub first : answer ≡ answer_of d (view_of d p) lines

-- What a lane has found is so, and where it is fresh, no edit came since that search.
abbrev pub IsServed : Notes → ℕ → Lane → Type 0
IsServed n place Lane.Idle = Unit {0}
IsServed n place (Lane.Missed d p) = Unit {0}
IsServed n place (Lane.Found d p answer key fresh) = IsAsSearched n place d p answer × (fresh ≡ true → n.current place ≡ true)

-- So are all lanes, each key was put in by a fill whose search came after the last edit, and there are at most as many as the capacity.
pub record AreServed (m : Machine) (n : Notes) : Type 0 where
  pub lanes : (place : ℕ) → IsServed n place (lane_at place m)
  pub keys : All (λ key. n.put key ≡ true) m.keys
  pub few : length m.keys ≤ m.capacity

-- A fill answers as the policy did at the lane's last search, and is fresh only where no edit came since.
abbrev pub IsFilledAsSearched : Notes → ℕ → Lane → Filled → Type 0
IsFilledAsSearched n place Lane.Idle reply = ⊥
IsFilledAsSearched n place (Lane.Missed d p) reply = ⊥
IsFilledAsSearched n place (Lane.Found d p answer key fresh) reply =
    IsAsSearched n place d p reply.answer × (reply.stale ≡ false → n.current place ≡ true)
