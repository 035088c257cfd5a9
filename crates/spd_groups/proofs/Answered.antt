-- A cache of a policy's groups answers by the key of a point.
use Rattle.std.proofs.Common.{◌≡◌, ℕ, zero, suc, ◌<◌, Bool, true, false, cond, List, [], ◌∷◌, length, get_or, Option, Some, None, IfSome, option_map}
use Rattle.std.proofs.Common.{refl, sym, subst, ap, ap₂, ◌∙◌, arith}
use Rattle.std.specs.List.{All, find}
use Rattle.std.specs.Map.{lookup_entry}
use Rattle.std.specs.Option.{option_or}
use Rattle.std.proofs.lemmas.Bool.{and_left}
use Rattle.std.proofs.lemmas.List.Elements.{All-head, All-tail}
use Rattle.sel_box.specs.Boxes.{box_has}
use Rattle.sel_box.specs.Point.{IsReal, PointFields}
use Rattle.sel_box.specs.declared.packet.Direction.{Direction}
use Rattle.sel_box.specs.declared.packet.Direction.TheVariants.{Outbound, Inbound}
use Rattle.spd_line.specs.declared.judgement.Answer.{Answer}
use Rattle.spd_line.specs.declared.judgement.Judgement.{Judgement}
use Rattle.spd_line.specs.declared.line.LineParts.{LineParts}
use Rattle.spd_line.specs.declared.line_boxes.LineBox.{LineBox}
use Rattle.spd_line.specs.First.{first_place, name_at, verdict_of}
use Rattle.spd_cache.specs.declared.key.Key.{Key}
use Rattle.spd_cache.specs.Cached.{Cell, IsAnsweredAlike, first_box, first_hit, hit}
use Rattle.spd_cache.specs.Key.{same_direction, same_key}
use Rattle.spd_cache.specs.KeyOf.{key_of}
use Rattle.spd_cache.specs.laws.Keys.{key_decides, key_equivalence}
use Rattle.spd_cut.specs.Group.{group_has}
use Rattle.spd_groups.specs.Groups.{IsGroup, answer_of, group_at}

-- What is answered under a key, by a box and by a judgement.
abbrev by_judgement : Key → Judgement → Key × Answer
by_judgement key judgement = (key, record { name = key.name; judgement = judgement })

abbrev named_answer : Key → List ℕ → Judgement → Option (Key × Answer)
named_answer key name judgement = Some (key, record { name = name; judgement = judgement })

abbrev by_box : Key → LineBox → Key × Answer
by_box key box = by_judgement key box.judgement

answered : (key : Key) (found : Option LineBox) →
    option_map (by_box key) found
    ≡ option_map (by_judgement key)
    (option_map (λ (box : LineBox). box.judgement) found)
answered key None = refl
answered key (Some box) = refl

equal_directions : (a b : Direction) → same_direction a b ≡ true → a ≡ b
equal_directions Outbound Outbound same = refl
equal_directions Inbound Inbound same = refl
equal_directions Outbound Inbound same = cc
equal_directions Inbound Outbound same = cc

-- One more cell in front.
in_front : {A B : Type 0} (f : A → B) (test : Bool) (item : A) (rest : Option A) →
    option_or (cond test (Some (f item)) None) (option_map f rest) ≡ option_map f (cond test (Some item) rest)
in_front f true item rest = refl
in_front f false item rest = refl

-- A cell of the key is there, so one of that key is found.
module _ (key : Key) (answer : Answer) where
  abbrev under : Cell → Key × Answer
  under cell = (cell.0, answer)

  found_under : (cells : List Cell) (k : ℕ) (c : Cell) → k < length cells → same_key key (get_or cells k c).0 ≡ true →
      option_map under (lookup_entry (same_key key) cells) ≡ Some (under (get_or cells k c))
  found_under [] k c below is = absurd (omega arith)
  found_under (cell ∷ cells) zero c below is =
      ap (λ (here : Bool). option_map under (cond here (Some cell) (lookup_entry (same_key key) cells))) is
  found_under (cell ∷ cells) (suc k) c below is = go (same_key key cell.0) refl (found_under cells k c (omega arith) is)
    where
      go : (here : Bool) → same_key key cell.0 ≡ here → option_map under (lookup_entry (same_key key) cells) ≡ Some (under (get_or cells k c)) →
          option_map under (cond here (Some cell) (lookup_entry (same_key key) cells)) ≡ Some (under (get_or cells k c))
      go true first later =
          ap (λ (one : Key). Some (one, answer)) (sym ((key_decides key cell.0).0 first) ∙ (key_decides key (get_or cells k c).0).0 is)
      go false first later = later

module _ (d : Direction) (x : PointFields) (lines : List LineParts) where
  -- a box of a group that has the point is judged as the point's first line judges it, and there is one where the key is its own
  abbrev FirstJudged : Key → Type 0
  FirstJudged key =
      option_map (λ (box : LineBox). box.judgement) (find (λ box. box_has box.region x) (group_at lines key))
      ≡ cond (group_has (group_at lines key) x) (Some (verdict_of key.direction x lines).judgement) None

  -- a group of the direction answers where the key is the point's, with its first line's name and judgement
  own : (key : Key) (boxes : List LineBox) → key.direction ≡ d → boxes ≡ group_at lines key → FirstJudged key →
      group_has (group_at lines key) x ≡ same_key key (key_of key.direction x lines) →
      option_map (by_box key) (first_box x boxes)
      ≡ cond (same_key (key_of d x lines) key) (Some (key, answer_of d x lines)) None
  own key boxes of_d are judged has =
      answered key (first_box x boxes)
      ∙ ap (option_map (by_judgement key))
      (ap (λ (bs : List LineBox). option_map (λ (box : LineBox). box.judgement) (first_box x bs)) are
      ∙ judged
      ∙ ap (λ (test : Bool). cond test (Some (verdict_of key.direction x lines).judgement) None) has
      ∙ ap (λ (e : Direction). cond (same_key key (key_of e x lines)) (Some (verdict_of e x lines).judgement) None) of_d
      ∙ ap (λ (test : Bool). cond test (Some (verdict_of d x lines).judgement) None) (key_equivalence.symm key (key_of d x lines)))
      ∙ go (same_key (key_of d x lines) key) refl
    where
      go : (test : Bool) → same_key (key_of d x lines) key ≡ test →
          option_map (by_judgement key)
          (cond test (Some (verdict_of d x lines).judgement) None)
          ≡ cond test (Some (key, answer_of d x lines)) None
      go true is =
          let same : key_of d x lines ≡ key = (key_decides (key_of d x lines) key).0 is in
          ap (λ (name : List ℕ). named_answer key name (verdict_of d x lines).judgement)
          (sym (ap (λ (k : Key). k.name) same))
      go false is = refl

  -- so does each group, since one of the other direction has another key
  answers : (cell : Cell) → IsGroup lines cell → IsReal x → FirstJudged cell.0 →
      hit d x cell ≡ cond (same_key (key_of d x lines) cell.0) (Some (cell.0, answer_of d x lines)) None
  answers cell group real judged = go (same_direction cell.0.direction d) refl
    where
      go : (of_d : Bool) → same_direction cell.0.direction d ≡ of_d →
          cond of_d (option_map (by_box cell.0) (first_box x cell.1)) None
          ≡ cond (same_key (key_of d x lines) cell.0) (Some (cell.0, answer_of d x lines)) None
      go true is = own cell.0 cell.1 (equal_directions cell.0.direction d is) group.is judged (group.has x real)
      go false is =
          let other : same_key (key_of d x lines) cell.0 ≡ false =
          key_equivalence.symm (key_of d x lines) cell.0 ∙ and_left (same_direction cell.0.direction d) _ is in
          ap (λ (test : Bool). cond test (named_answer cell.0 (name_at lines (first_place d x lines)) (verdict_of d x lines).judgement) None) (sym other)

  pub answers_by_key : (cells : List Cell) → IsReal x → All (IsGroup lines) cells → ((key : Key) → FirstJudged key) →
      first_hit d x cells ≡ option_map (λ (cell : Cell). (cell.0, answer_of d x lines)) (lookup_entry (same_key (key_of d x lines)) cells)
  answers_by_key [] real groups judged = refl
  answers_by_key (cell ∷ cells) real groups judged =
      ap₂ (option_or {T = Key × Answer})
      (answers cell (All-head (IsGroup lines) cell cells groups) real (judged cell.0))
      (answers_by_key cells real (All-tail (IsGroup lines) cell cells groups) judged)
      ∙ in_front (λ (c : Cell). (c.0, answer_of d x lines)) (same_key (key_of d x lines) cell.0) cell
      (lookup_entry (same_key (key_of d x lines)) cells)

  -- a group that answers is that of the point's key, so the first answer is its own
  abbrev Alike : List Cell → Option (Key × Answer) → Type 0
  Alike cells here = IfSome here (λ (found : Key × Answer). first_hit d x cells ≡ Some found)

  pub answered_alike : (cells : List Cell) → IsReal x → All (IsGroup lines) cells → ((key : Key) → FirstJudged key) → IsAnsweredAlike d x cells
  answered_alike cells real groups judged k c below = go (same_key (key_of d x lines) (get_or cells k c).0) refl
    where
      by_key : (here : Bool) → same_key (key_of d x lines) (get_or cells k c).0 ≡ here →
          hit d x (get_or cells k c) ≡ cond here (Some ((get_or cells k c).0, answer_of d x lines)) None
      by_key here is =
          answers (get_or cells k c) (groups k c below) real (judged (get_or cells k c).0)
          ∙ ap (λ (test : Bool). cond test (Some ((get_or cells k c).0, answer_of d x lines)) None) is

      go : (here : Bool) → same_key (key_of d x lines) (get_or cells k c).0 ≡ here → Alike cells (hit d x (get_or cells k c))
      go true is =
          subst (Alike cells) (sym (by_key true is))
          (answers_by_key cells real groups judged ∙ found_under (key_of d x lines) (answer_of d x lines) cells k c below is)
      go false is = subst (Alike cells) (sym (by_key false is)) tt
