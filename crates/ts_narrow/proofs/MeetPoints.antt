-- The meets of a line have exactly the real points that the line allows.
use Rattle.std.proofs.Common.{◌≡◌, ℕ, Bool, true, false, ◌==◌, ◌&&◌, ◌||◌, cond, List, [], ◌∷◌, ◌++◌, Option, Some}
use Rattle.std.proofs.Common.{None, option_map, refl, sym, ap, ap₂, ◌∙◌}
use Rattle.std.specs.List.{All, flat_map, list_any}
use Rattle.std.specs.Option.{option_to_list}
use Rattle.std.proofs.Math.Bool.{and-false, or-false}
use Rattle.std.proofs.lemmas.Bool.{and_from, and_parts, eq-eqb, eqb-true}
use Rattle.std.proofs.lemmas.List.Concat.{flat_map-append}
use Rattle.std.proofs.lemmas.List.Elements.{All-head, All-tail}
use Rattle.std.proofs.lemmas.List.Folds.{list_any-append}
use Rattle.sel_region.specs.Region.{some_has}
use Rattle.sel_box.specs.declared.any_box.AnyBox.{AnyBox}
use Rattle.sel_box.specs.declared.packet.Direction.TheVariants.{Inbound, Outbound}
use Rattle.sel_box.specs.BoxRegion.{box_meet}
use Rattle.sel_box.specs.Boxes.{box_has}
use Rattle.sel_box.specs.Point.{IsReal, PointFields, real_point}
use Rattle.sel_box.specs.laws.BoxLaws.{box_laws}
use Rattle.sel_box.proofs.BoxPackets.{real_point-real}
use Rattle.sel_box.proofs.RealPoints.{is_point-from_real}
use Rattle.spd_cut.specs.declared.entry.Entry.{Entry}
use Rattle.spd_cut.specs.Entries.{entry_has}
use Rattle.spd_cut.proofs.Groups.{some_from_one}
use Rattle.spd_line.specs.declared.judgement.Judgement.{Judgement}
use Rattle.spd_line.specs.declared.line.LineParts.{LineParts}
use Rattle.spd_line.specs.First.{first_place, verdict_of}
use Rattle.ts_span.proofs.Spans.{same_test}
use Rattle.ts_cover.specs.Pairs.{boxes_have}
use Rattle.ts_narrow.specs.declared.meets.Meet.{Meet}
use Rattle.ts_narrow.specs.Allowed.{StandForBoth, allowed, is_protect, protects}
use Rattle.ts_narrow.specs.Meets.{meet_of, meets, meets_with, region_of, regions_of}

abbrev has_meet : ℕ → List Meet → PointFields → Bool
has_meet place list x = boxes_have (flat_map (region_of place) list) x

-- ---- the meet of two entries

and_true : (b : Bool) → (b && true) ≡ b
and_true true = refl
and_true false = refl

abbrev agree : Entry → Entry → Bool
agree e f = (e.link == f.link) && (is_protect e.judgement && is_protect f.judgement)

meet-has : (place : ℕ) (e f : Entry) (x : PointFields) →
    has_meet place (option_to_list (meet_of e f)) x ≡ ((entry_has e x && entry_has f x) && (agree e f && (e.link == place)))
meet-has place e f x = go (agree e f) (box_meet e.region f.region) (box_laws.meet_has e.region f.region x)
  where
    placed : (region : AnyBox) (b : Bool) → box_has region x ≡ (entry_has e x && entry_has f x) →
        boxes_have (cond b (region ∷ []) [] ++ []) x ≡ ((entry_has e x && entry_has f x) && b)
    placed region true same = or-false (box_has region x) ∙ same ∙ sym (and_true (entry_has e x && entry_has f x))
    placed region false same = sym (and-false (entry_has e x && entry_has f x))

    go : (test : Bool) (o : Option AnyBox) → some_has box_has o x ≡ (entry_has e x && entry_has f x) →
        has_meet place (option_to_list (cond test (option_map (λ (region : AnyBox). record { region = region; link = e.link }) o) None)) x
        ≡ ((entry_has e x && entry_has f x) && (test && (e.link == place)))
    go false o same = sym (and-false (entry_has e x && entry_has f x))
    go true None same = ap (λ (b : Bool). b && (e.link == place)) same
    go true (Some region) same = placed region (e.link == place) same

-- ---- the meets of lists of entries, of which those that have the point are of one line

-- An entry that has the point is of the line and judged so.
abbrev pub IsOf : PointFields → ℕ → Judgement → Entry → Type 0
IsOf x place judgement e = entry_has e x ≡ true → (e.link ≡ place) × (e.judgement ≡ judgement)

module _ (x : PointFields) (place out_place in_place : ℕ) (out_judged in_judged : Judgement) where
  abbrev accepted : Bool
  accepted = ((out_place == in_place) && (is_protect out_judged && is_protect in_judged)) && (out_place == place)

  settled : (e f : Entry) → IsOf x out_place out_judged e → IsOf x in_place in_judged f →
      ((entry_has e x && entry_has f x) && (agree e f && (e.link == place))) ≡ ((entry_has e x && entry_has f x) && accepted)
  settled e f is_out is_in = go (entry_has e x) refl (entry_has f x) refl
    where
      go : (a : Bool) → entry_has e x ≡ a → (b : Bool) → entry_has f x ≡ b →
          ((a && b) && (agree e f && (e.link == place))) ≡ ((a && b) && accepted)
      go true p true q =
          let s = is_out p in
          let t = is_in q in
          ap₂ (λ (m n : ℕ). ((m == n) && (is_protect e.judgement && is_protect f.judgement)) && (m == place)) s.0 t.0
          ∙ ap₂ (λ (j k : Judgement). ((out_place == in_place) && (is_protect j && is_protect k)) && (out_place == place)) s.1 t.1
      go true p false q = refl
      go false p b q = refl

  gather_in : (h g l c : Bool) → (((h && g) && c) || (h && (l && c))) ≡ (h && ((g || l) && c))
  gather_in false g l c = refl
  gather_in true true l true = refl
  gather_in true true true false = refl
  gather_in true true false false = refl
  gather_in true false l c = refl

  with-has : (e : Entry) (inbound : List Entry) → IsOf x out_place out_judged e → All (IsOf x in_place in_judged) inbound →
      has_meet place (meets_with e inbound) x ≡ (entry_has e x && (list_any (λ f. entry_has f x) inbound && accepted))
  with-has e [] is_out are_in = sym (and-false (entry_has e x))
  with-has e (f ∷ inbound) is_out are_in =
      ap (λ (boxes : List AnyBox). boxes_have boxes x)
      (flat_map-append (region_of place) (option_to_list (meet_of e f)) (meets_with e inbound))
      ∙ list_any-append (λ r. box_has r x) (flat_map (region_of place) (option_to_list (meet_of e f)))
      (flat_map (region_of place) (meets_with e inbound))
      ∙ ap₂ (λ (a b : Bool). a || b)
      (meet-has place e f x ∙ settled e f is_out (All-head (IsOf x in_place in_judged) f inbound are_in))
      (with-has e inbound is_out (All-tail (IsOf x in_place in_judged) f inbound are_in))
      ∙ gather_in (entry_has e x) (entry_has f x) (list_any (λ f. entry_has f x) inbound) accepted

  gather_out : (h l i : Bool) → ((h && i) || (l && i)) ≡ ((h || l) && i)
  gather_out true l true = refl
  gather_out true true false = refl
  gather_out true false false = refl
  gather_out false l i = refl

  all-have : (outbound inbound : List Entry) → All (IsOf x out_place out_judged) outbound → All (IsOf x in_place in_judged) inbound →
      has_meet place (flat_map (λ e. meets_with e inbound) outbound) x
      ≡ (list_any (λ e. entry_has e x) outbound && (list_any (λ f. entry_has f x) inbound && accepted))
  all-have [] inbound are_out are_in = refl
  all-have (e ∷ outbound) inbound are_out are_in =
      ap (λ (boxes : List AnyBox). boxes_have boxes x)
      (flat_map-append (region_of place) (meets_with e inbound) (flat_map (λ e. meets_with e inbound) outbound))
      ∙ list_any-append (λ r. box_has r x) (flat_map (region_of place) (meets_with e inbound))
      (flat_map (region_of place) (flat_map (λ e. meets_with e inbound) outbound))
      ∙ ap₂ (λ (a b : Bool). a || b)
      (with-has e inbound (All-head (IsOf x out_place out_judged) e outbound are_out) are_in)
      (all-have outbound inbound (All-tail (IsOf x out_place out_judged) e outbound are_out) are_in)
      ∙ gather_out (entry_has e x) (list_any (λ e. entry_has e x) outbound) (list_any (λ f. entry_has f x) inbound && accepted)

-- ---- entries that stand for a policy

both_placed : (m n place : ℕ) (v w : Bool) → (((m == n) && (v && w)) && (m == place)) ≡ (((m == place) && v) && ((n == place) && w))
both_placed m n place v w =
    same_test (((m == n) && (v && w)) && (m == place)) (((m == place) && v) && ((n == place) && w))
    (λ h.
    let a = and_parts ((m == n) && (v && w)) (m == place) h in
    let b = and_parts (m == n) (v && w) a.0 in
    let c = and_parts v w b.1 in
    and_from ((m == place) && v) ((n == place) && w) (and_from (m == place) v a.1 c.0)
    (and_from (n == place) w (eq-eqb n place (sym (eqb-true m n b.0) ∙ eqb-true m place a.1)) c.1))
    (λ h.
    let a = and_parts ((m == place) && v) ((n == place) && w) h in
    let b = and_parts (m == place) v a.0 in
    let c = and_parts (n == place) w a.1 in
    and_from ((m == n) && (v && w)) (m == place)
    (and_from (m == n) (v && w) (eq-eqb m n (eqb-true m place b.0 ∙ sym (eqb-true n place c.0))) (and_from v w b.1 c.1)) b.0)

are_of : (x : PointFields) (place : ℕ) (judgement : Judgement) (entries : List Entry) →
    All (λ (e : Entry). entry_has e x ≡ true → e.link ≡ place) entries →
    All (λ (e : Entry). entry_has e x ≡ true → e.judgement ≡ judgement) entries → All (IsOf x place judgement) entries
are_of x place judgement entries linked judged = λ k d below has. (linked k d below has, judged k d below has)

pub meets-allowed : (lines : List LineParts) (outbound inbound : List Entry) → StandForBoth lines outbound inbound →
    (place : ℕ) (x : PointFields) → IsReal x → boxes_have (regions_of place (meets outbound inbound)) x ≡ allowed lines place x
unfolding meets regions_of
meets-allowed lines outbound inbound both place x real =
    let out = both.outbound_stands in
    let in' = both.inbound_stands in
    let point = is_point-from_real x real in
    let out_place = first_place Outbound x lines in
    let in_place = first_place Inbound x lines in
    let out_judged = (verdict_of Outbound x lines).judgement in
    let in_judged = (verdict_of Inbound x lines).judgement in
    all-have x place out_place in_place out_judged in_judged outbound inbound
    (are_of x out_place out_judged outbound (out.link x point) (out.judged x point))
    (are_of x in_place in_judged inbound (in'.link x point) (in'.judged x point))
    ∙ ap₂ (λ (a b : Bool).
    a && (b && (((out_place == in_place) && (is_protect out_judged && is_protect in_judged)) && (out_place == place))))
    (some_from_one x outbound (out.one x real)) (some_from_one x inbound (in'.one x real))
    ∙ both_placed out_place in_place place (is_protect out_judged) (is_protect in_judged)
    ∙ ap (λ (b : Bool). b && (protects lines place Outbound x && protects lines place Inbound x))
    (sym ((real_point-real (real_point x) x refl).1 real))

pub allowed-real : (lines : List LineParts) (place : ℕ) (x : PointFields) → allowed lines place x ≡ true → IsReal x
allowed-real lines place x h =
    (real_point-real (real_point x) x refl).0
    (and_parts (real_point x) (protects lines place Outbound x && protects lines place Inbound x) h).0

-- One line allows a point at most.
pub allowed-one : (lines : List LineParts) (m n : ℕ) (x : PointFields) → allowed lines m x ≡ true → allowed lines n x ≡ true → m ≡ n
allowed-one lines m n x a b =
    let at : (k : ℕ) → allowed lines k x ≡ true → first_place Outbound x lines ≡ k = λ k h.
    let p = (and_parts (real_point x) (protects lines k Outbound x && protects lines k Inbound x) h).1 in
    let q = (and_parts (protects lines k Outbound x) (protects lines k Inbound x) p).0 in
    eqb-true (first_place Outbound x lines) k
    (and_parts (first_place Outbound x lines == k) (is_protect (verdict_of Outbound x lines).judgement) q).0 in
    sym (at m a) ∙ at n b
