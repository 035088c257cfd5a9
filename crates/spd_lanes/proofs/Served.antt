-- Each event keeps what is said of lanes and keys.
use Rattle.std.proofs.Common.{◌≡◌, ◌≢◌, ℕ, zero, suc, ◌==◌, Bool, true, false, cond, List, [], ◌∷◌, length, map, replicate, get_or, set, Option, Some, None}
use Rattle.std.proofs.Common.{Result, Ok, Err, refl, sym, subst, ap, ◌∙◌, arith, ◌≤◌}
use Rattle.std.specs.List.{All, list_any}
use Rattle.std.specs.Set.{remove_key}
use Rattle.std.proofs.lemmas.List.Elements.{All-cons, All-contains, All-nil, All-take, All-weaker}
use Rattle.std.proofs.lemmas.List.{length-take}
use Rattle.std.proofs.lemmas.Map.Made.{length-remove_key}
use Rattle.std.proofs.lemmas.Map.Views.{All-remove_key, Contains-from_any}
use Rattle.std.proofs.lemmas.Bool.{eq-eqb, eqb-true, false_from_ne_true, false≢true}
use Rattle.sel_box.specs.declared.packet.Direction.{Direction}
use Rattle.sel_box.specs.Packet.{PacketFields}
use Rattle.sel_box.specs.Point.{view_of}
use Rattle.spd_line.specs.declared.judgement.Answer.{Answer}
use Rattle.spd_line.specs.declared.line.LineParts.{LineParts}
use Rattle.spd_cache.specs.declared.key.Key.{Key}
use Rattle.spd_cache.specs.Key.{same_key}
use Rattle.spd_cache.specs.KeyOf.{key_of}
use Rattle.spd_cache.specs.laws.Keys.{key_decides}
use Rattle.spd_groups.specs.Groups.{answer_of}
use Rattle.spd_lanes.specs.declared.fault.EditFault.{EditFault}
use Rattle.spd_lanes.specs.declared.fault.LaneFault.{LaneFault}
use Rattle.spd_lanes.specs.declared.lane.Filled.{Filled}
use Rattle.spd_lanes.specs.declared.lane.PacketAnswer.{PacketAnswer}
use Rattle.spd_lanes.specs.Machine.{Lane, Machine, asked, filled, filled_on, found_now, lane_at, machine, put_in, searched, searched_on, stale_lane}
use Rattle.spd_lanes.specs.Machine.{taken, taken_on, used, with_lane, with_lines}
use Rattle.spd_lanes.specs.Policy.{changed_by, edited_lines}
use Rattle.spd_lanes.specs.Run.{AreServed, Event, IsFilledAsSearched, IsServed, Notes, Refusal, Reply, asked_note, fill_note, no_notes, noted}
use Rattle.spd_lanes.specs.Run.{of_edit, of_lane, put_note, run, search_note, step, with_step}

-- A list with another item at an index has that item there, and the others as they were.
with_item : {X : Type 0} (P : ℕ → X → Type 0) (default : X) (xs : List X) (place : ℕ) (x : X) → ((i : ℕ) → P i default) →
    P place x → ((i : ℕ) → i ≢ place → P i (get_or xs i default)) → (i : ℕ) → P i (get_or (set xs place x) i default)
with_item P default [] place x blank here others i = blank i
with_item P default (y ∷ ys) zero x blank here others zero = here
with_item P default (y ∷ ys) zero x blank here others (suc i) = others (suc i) (λ e. absurd (omega arith))
with_item P default (y ∷ ys) (suc place) x blank here others zero = others zero (λ e. absurd (omega arith))
with_item P default (y ∷ ys) (suc place) x blank here others (suc i) =
    with_item (λ k z. P (suc k) z) default ys place x (λ k. blank (suc k)) here (λ k other. others (suc k) (λ e. other (omega arith))) i

stale_at : (lanes : List Lane) (i : ℕ) → get_or (map stale_lane lanes) i Lane.Idle ≡ stale_lane (get_or lanes i Lane.Idle)
stale_at [] i = refl
stale_at (lane ∷ lanes) zero = refl
stale_at (lane ∷ lanes) (suc i) = stale_at lanes i

idle_at : (k i : ℕ) → get_or (replicate k Lane.Idle) i Lane.Idle ≡ Lane.Idle
idle_at zero i = refl
idle_at (suc k) zero = refl
idle_at (suc k) (suc i) = idle_at k i

-- Notes that are the same of a lane say the same of it.
same-lane : (n new : Notes) (place : ℕ) (lane : Lane) → new.policy_at place ≡ n.policy_at place → new.current place ≡ n.current place →
    IsServed n place lane → IsServed new place lane
same-lane n new place Lane.Idle policy current served = tt
same-lane n new place (Lane.Missed d p) policy current served = tt
same-lane n new place (Lane.Found d p answer key fresh) policy current served = (
  record { lines = served.0.lines; in_force = policy ∙ served.0.in_force; first = served.0.first },
  λ is. current ∙ served.1 is,
)

-- So another note of keys leaves what is said of lanes.
put-lanes : (key : Key) (since : Bool) (n : Notes) (lanes : List Lane) → ((i : ℕ) → IsServed n i (get_or lanes i Lane.Idle)) →
    (i : ℕ) → IsServed (put_note key since n) i (get_or lanes i Lane.Idle)
put-lanes key since n lanes served i = same-lane n (put_note key since n) i (get_or lanes i Lane.Idle) refl refl (served i)

-- Lanes with another one, of which what is said holds.
lanes-with : (n : Notes) (lanes : List Lane) (place : ℕ) (lane : Lane) → IsServed n place lane →
    ((i : ℕ) → i ≢ place → IsServed n i (get_or lanes i Lane.Idle)) → (i : ℕ) → IsServed n i (get_or (set lanes place lane) i Lane.Idle)
lanes-with n lanes place lane here others = with_item (IsServed n) Lane.Idle lanes place lane (λ i. tt) here others

-- Whether the search of each key's fill was current, with one more key.
abbrev HeldWith : Key → Bool → Notes → Key → Type 0
HeldWith key since n k = cond (same_key key k) since (n.put k) ≡ true

held-still : (key : Key) (since : Bool) (n : Notes) → since ≡ true → (k : Key) → n.put k ≡ true → HeldWith key since n k
held-still key since n current k was = go (same_key key k)
  where
    go : (here : Bool) → cond here since (n.put k) ≡ true
    go true = current
    go false = was

-- A key that is put in after a current search.
put-keys : (capacity : ℕ) (key : Key) (since : Bool) (n : Notes) (keys : List Key) → since ≡ true →
    All (λ k. n.put k ≡ true) keys → All (HeldWith key since n) (put_in capacity key keys)
put-keys capacity key since n keys current all =
    All-take (HeldWith key since n) capacity (key ∷ remove_key (same_key key) keys)
    (All-cons (HeldWith key since n) key (remove_key (same_key key) keys)
    (ap (λ (here : Bool). cond here since (n.put key)) ((key_decides key key).1 refl) ∙ current)
    (All-remove_key (same_key key) (HeldWith key since n) keys
    (All-weaker (λ k. n.put k ≡ true) (HeldWith key since n) (held-still key since n current) keys all)))

-- A key that is there goes first.
used-keys : (key : Key) (n : Notes) (keys : List Key) → list_any (same_key key) keys ≡ true →
    All (λ k. n.put k ≡ true) keys → All (λ k. n.put k ≡ true) (used key keys)
used-keys key n keys here all =
    All-cons (λ k. n.put k ≡ true) key (remove_key (same_key key) keys)
    (All-contains (λ k. n.put k ≡ true) keys key all (Contains-from_any (λ a b. (key_decides a b).0) key keys here))
    (All-remove_key (same_key key) (λ k. n.put k ≡ true) keys all)

-- The capacity holds for the keys after one was used, or put in.
used-few : (capacity : ℕ) (key : Key) (keys : List Key) → list_any (same_key key) keys ≡ true → length keys ≤ capacity →
    length (used key keys) ≤ capacity
used-few capacity key keys here few = let one = length-remove_key (same_key key) keys here in omega (arith, one, few)

put-few : (capacity : ℕ) (key : Key) (keys : List Key) → length (put_in capacity key keys) ≤ capacity
put-few capacity key keys = let taken = length-take capacity (used key keys) in omega (arith, taken)

-- What is said after a step that isn't refused.
abbrev ServedAfter : {A : Type 0} {E : Type 0} → Result (A × Machine) E → Notes → Type 0
ServedAfter (Ok r) n = AreServed r.1 n
ServedAfter (Err fault) n = Unit {0}

module _ (m : Machine) (n : Notes) (served : AreServed m n) where
  asked-served : (d : Direction) (p : PacketFields) → AreServed (asked d p m).1 (noted (Event.AtOnce d p) m n)
  asked-served d p = go (list_any (same_key (key_of d (view_of d p) m.lines)) m.keys) refl
    where
      go : (here : Bool) → list_any (same_key (key_of d (view_of d p) m.lines)) m.keys ≡ here →
          AreServed
          (cond {A = PacketAnswer × Machine} here
          (record { answer = answer_of d (view_of d p) m.lines; hit = true }, record m { keys = used (key_of d (view_of d p) m.lines) m.keys })
          (record { answer = answer_of d (view_of d p) m.lines; hit = false }, record m { keys = put_in m.capacity (key_of d (view_of d p) m.lines) m.keys })).1
          (asked_note here (key_of d (view_of d p) m.lines) n)
      go true is = record {
        lanes = served.lanes;
        keys = used-keys (key_of d (view_of d p) m.lines) n m.keys is served.keys;
        few = used-few m.capacity (key_of d (view_of d p) m.lines) m.keys is served.few;
      }
      go false is = record {
        lanes = put-lanes (key_of d (view_of d p) m.lines) true n m.lanes served.lanes;
        keys = put-keys m.capacity (key_of d (view_of d p) m.lines) true n m.keys refl served.keys;
        few = put-few m.capacity (key_of d (view_of d p) m.lines) m.keys;
      }

  taken-served : (place : ℕ) (d : Direction) (p : PacketFields) (lane : Lane) → ServedAfter (taken_on place d p lane m) n
  taken-served place d p Lane.Idle = go (list_any (same_key (key_of d (view_of d p) m.lines)) m.keys) refl
    where
      go : (here : Bool) → list_any (same_key (key_of d (view_of d p) m.lines)) m.keys ≡ here →
          AreServed
          (cond {A = Option Answer × Machine} here
          (Some (answer_of d (view_of d p) m.lines), record m { keys = used (key_of d (view_of d p) m.lines) m.keys })
          (None, with_lane place (Lane.Missed d p) m)).1
          n
      go true is = record {
        lanes = served.lanes;
        keys = used-keys (key_of d (view_of d p) m.lines) n m.keys is served.keys;
        few = used-few m.capacity (key_of d (view_of d p) m.lines) m.keys is served.few;
      }
      go false is = record {
        lanes = lanes-with n m.lanes place (Lane.Missed d p) tt (λ i other. served.lanes i);
        keys = served.keys;
        few = served.few;
      }
  taken-served place d p (Lane.Missed e q) = tt
  taken-served place d p (Lane.Found e q answer key fresh) = tt

  found-served : (place : ℕ) (d : Direction) (p : PacketFields) →
      AreServed (with_lane place (found_now d p m.lines) m) (search_note place m.lines n)
  found-served place d p =
      let here : (place == place) ≡ true = eq-eqb place place refl in
      record {
        lanes = lanes-with (search_note place m.lines n) m.lanes place (found_now d p m.lines) (
          record {
            lines = m.lines;
            in_force = ap (λ (b : Bool). cond b (Some m.lines) (n.policy_at place)) here;
            first = refl;
          },
          λ fresh. ap (λ (b : Bool). cond b true (n.current place)) here,
        )
            (λ i other.
            let apart : (i == place) ≡ false = false_from_ne_true (i == place) (λ is. other (eqb-true i place is)) in
            same-lane n (search_note place m.lines n) i (get_or m.lanes i Lane.Idle)
            (ap (λ (b : Bool). cond b (Some m.lines) (n.policy_at i)) apart)
            (ap (λ (b : Bool). cond b true (n.current i)) apart)
            (served.lanes i));
        keys = served.keys;
        few = served.few;
      }

  searched-served : (place : ℕ) (lane : Lane) → ServedAfter (searched_on place lane m) (search_note place m.lines n)
  searched-served place Lane.Idle = tt
  searched-served place (Lane.Missed d p) = found-served place d p
  searched-served place (Lane.Found d p answer key fresh) = found-served place d p

  filled-served : (place : ℕ) (lane : Lane) → IsServed n place lane → ServedAfter (filled_on place lane m) (fill_note place lane n)
  filled-served place Lane.Idle held = tt
  filled-served place (Lane.Missed d p) held = tt
  filled-served place (Lane.Found d p answer key true) held = record {
    lanes = lanes-with (put_note key (n.current place) n) m.lanes place Lane.Idle tt
        (λ i other. put-lanes key (n.current place) n m.lanes served.lanes i);
    keys = put-keys m.capacity key (n.current place) n m.keys (held.1 refl) served.keys;
    few = put-few m.capacity key m.keys;
  }
  filled-served place (Lane.Found d p answer key false) held = record {
    lanes = lanes-with n m.lanes place Lane.Idle tt (λ i other. served.lanes i);
    keys = served.keys;
    few = served.few;
  }

  abbrev edit_notes : Notes
  edit_notes = record { policy_at = n.policy_at; current = λ _. false; put = λ _. false }

  stale-served : (place : ℕ) (lane : Lane) → IsServed n place lane → IsServed edit_notes place (stale_lane lane)
  stale-served place Lane.Idle held = tt
  stale-served place (Lane.Missed d p) held = tt
  stale-served place (Lane.Found d p answer key fresh) held = (
    record { lines = held.0.lines; in_force = held.0.in_force; first = held.0.first },
    λ is. absurd (false≢true is),
  )

  edited-served : (lines : Result (List LineParts) EditFault) → ServedAfter (of_edit (with_lines m lines)) edit_notes
  edited-served (Ok lines) = record {
    lanes = λ i. subst (IsServed edit_notes i) (sym (stale_at m.lanes i)) (stale-served i (get_or m.lanes i Lane.Idle) (served.lanes i));
    keys = All-nil (λ key. edit_notes.put key ≡ true);
    few = omega arith;
  }
  edited-served (Err fault) = tt

  replied : {A : Type 0} (reply : A → Reply) (r : Result (A × Machine) LaneFault) (new : Notes) → ServedAfter r new → ServedAfter (of_lane reply r) new
  replied reply (Ok r) new after = after
  replied reply (Err fault) new after = tt

  -- each event
  step-served : (event : Event) → ServedAfter (step event m) (noted event m n)
  step-served (Event.AtOnce d p) = asked-served d p
  step-served (Event.Take place d p) = replied Reply.Taken (taken place d p m) n (taken-served place d p (lane_at place m))
  step-served (Event.Search place) = replied Reply.Searched (searched place m) (search_note place m.lines n) (searched-served place (lane_at place m))
  step-served (Event.Fill place) =
      replied Reply.Filling (filled place m) (fill_note place (lane_at place m) n) (filled-served place (lane_at place m) (served.lanes place))
  step-served (Event.Change change) = edited-served (edited_lines m.limit (changed_by change m.lines))

-- A run.
pub run-served : (events : List Event) (m : Machine) (n : Notes) → AreServed m n → AreServed (run events m n).machine (run events m n).notes
run-served [] m n served = served
run-served (event ∷ events) m n served =
    go (step event m) (step-served m n served event) (λ after. run-served events after (noted event m n))
  where
    go : (r : Result (Reply × Machine) Refusal) → ServedAfter r (noted event m n) →
        ((after : Machine) → AreServed after (noted event m n) →
        AreServed (run events after (noted event m n)).machine (run events after (noted event m n)).notes) →
        AreServed (with_step r m n (λ after. run events after (noted event m n))).machine
        (with_step r m n (λ after. run events after (noted event m n))).notes
    go (Ok r) after rest = rest r.1 after
    go (Err refusal) after rest = served

-- It begins with idle lanes and no key.
pub begun-served : (lines : List LineParts) (limit capacity : ℕ) → AreServed (machine lines limit capacity) no_notes
begun-served lines limit capacity = record {
  lanes = λ i. subst (IsServed no_notes i) (sym (idle_at 16 i)) tt;
  keys = All-nil (λ key. no_notes.put key ≡ true);
  few = omega arith;
}

-- What a fill replies, and what a take answers.
abbrev fill_reply : Filled → Result (Filled × Machine) LaneFault → Filled
fill_reply default (Ok r) = r.0
fill_reply default (Err fault) = default

abbrev take_reply : Option Answer → Result (Option Answer × Machine) LaneFault → Option Answer
take_reply default (Ok r) = r.0
take_reply default (Err fault) = default

-- A fill answers by what is said of the lane.
pub fill-served : (m after : Machine) (n : Notes) (place : ℕ) (lane : Lane) (reply : Filled) → IsServed n place lane →
    filled_on place lane m ≡ Ok (reply, after) → IsFilledAsSearched n place lane reply
fill-served m after n place Lane.Idle reply served ok = cc
fill-served m after n place (Lane.Missed d p) reply served ok = cc
fill-served m after n place (Lane.Found d p answer key true) reply served ok =
    let same : record { answer = answer; stale = false } ≡ reply = ap (fill_reply reply) ok in
    subst (IsFilledAsSearched n place (Lane.Found d p answer key true)) same
    (record { lines = served.0.lines; in_force = served.0.in_force; first = served.0.first }, λ is. served.1 refl)
fill-served m after n place (Lane.Found d p answer key false) reply served ok =
    let same : record { answer = answer; stale = true } ≡ reply = ap (fill_reply reply) ok in
    subst (IsFilledAsSearched n place (Lane.Found d p answer key false)) same
    (record { lines = served.0.lines; in_force = served.0.in_force; first = served.0.first }, λ is. absurd (false≢true (sym is)))

-- A take that hits answers by the first line.
pub hit-served : (place : ℕ) (d : Direction) (p : PacketFields) (m after : Machine) (answer : Answer) (lane : Lane) →
    taken_on place d p lane m ≡ Ok (Some answer, after) → answer ≡ answer_of d (view_of d p) m.lines
hit-served place d p m after answer Lane.Idle ok = go (list_any (same_key (key_of d (view_of d p) m.lines)) m.keys) (ap (take_reply None) ok)
  where
    go : (here : Bool) →
        (cond {A = Option Answer × Machine} here
        (Some (answer_of d (view_of d p) m.lines), record m { keys = used (key_of d (view_of d p) m.lines) m.keys })
        (None, with_lane place (Lane.Missed d p) m)).0
        ≡ Some answer →
        answer ≡ answer_of d (view_of d p) m.lines
    go true is = cc
    go false is = cc
hit-served place d p m after answer (Lane.Missed e q) ok = cc
hit-served place d p m after answer (Lane.Found e q a key fresh) ok = cc

pub asked-first : (d : Direction) (p : PacketFields) (m : Machine) → (asked d p m).0.answer ≡ answer_of d (view_of d p) m.lines
asked-first d p m = go (list_any (same_key (key_of d (view_of d p) m.lines)) m.keys)
  where
    go : (here : Bool) →
        (cond {A = PacketAnswer × Machine} here
        (record { answer = answer_of d (view_of d p) m.lines; hit = true }, record m { keys = used (key_of d (view_of d p) m.lines) m.keys }) (
          record { answer = answer_of d (view_of d p) m.lines; hit = false },
          record m { keys = put_in m.capacity (key_of d (view_of d p) m.lines) m.keys },
        )).0.answer
        ≡ answer_of d (view_of d p) m.lines
    go true = refl
    go false = refl
