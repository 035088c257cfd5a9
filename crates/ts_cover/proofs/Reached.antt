-- The tests of real points, by points.
use Rattle.std.proofs.Common.{◌≡◌, ℕ, ◌≤◌, Bool, true, false, not, ◌&&◌, ◌||◌, List, [], ◌∷◌, Option, Some, None, ◌↔◌}
use Rattle.std.proofs.Common.{inl, inr, refl, sym, subst, ap, ap₂, ◌∙◌, arith}
use Rattle.std.specs.List.{list_any}
use Rattle.std.specs.Option.{option_and_then, option_map_or}
use Rattle.std.proofs.Math.Bool.{and-false}
use Rattle.std.proofs.lemmas.Bool.{and_from, and_parts, false≢true, or_cases, or_left, or_right}
use Rattle.std.proofs.lemmas.Bool.Decides.{nat_tests}
use Rattle.std.proofs.lemmas.List.Folds.{list_any-append}
use Rattle.sel_region.specs.Cutting.{cut_all, cut_each}
use Rattle.sel_region.specs.Region.{some_has}
use Rattle.sel_box.specs.declared.any_box.AnyBox.{AnyBox}
use Rattle.sel_box.specs.BoxRegion.{box_meet, box_minus}
use Rattle.sel_box.specs.Bounds.{box_of}
use Rattle.sel_box.specs.Boxes.{box_has, family_of}
use Rattle.sel_box.specs.Class.{opaque_field, opaque_protocol}
use Rattle.sel_box.specs.Point.{IsReal, PointFields, is_point}
use Rattle.sel_box.specs.SomePoint.{has_real_point}
use Rattle.sel_box.specs.laws.BoxLaws.{box_laws, equal_from_same}
use Rattle.sel_box.proofs.BoxPackets.{has_real_point-some}
use Rattle.sel_box.proofs.RealPoints.{is_point-from_real}
use Rattle.sel_text.specs.declared.family.Family.{Family}
use Rattle.sel_text.specs.Family.{last_address, same_family}
use Rattle.ts_span.specs.Span.{lies_in}
use Rattle.ts_cover.specs.Pairs.{boxes_have}
use Rattle.ts_cover.specs.RealParts.{Leaves, Reaches, Says, leaves, of_protocols, reaches, real_meet, says}
use Rattle.ts_cover.proofs.PairPoints.{box_points}

-- ---- some box of a list has a real point

pub record SomeReal (boxes : List AnyBox) : Type 0 where
  pub point : PointFields
  pub real : IsReal point
  pub inside : boxes_have boxes point ≡ true

pub some_real : (boxes : List AnyBox) → list_any has_real_point boxes ≡ true → SomeReal boxes
some_real [] h = cc
some_real (b ∷ boxes) h =
    elim (or_cases (has_real_point b) (list_any has_real_point boxes) h) [
      | inl here ↦
          let found = (has_real_point-some b).0 here in
          record { point = found.0; real = found.2; inside = or_left (box_has b found.0) (boxes_have boxes found.0) found.1 }
      | inr later ↦
          let found = some_real boxes later in
          record {
            point = found.point;
            real = found.real;
            inside = or_right (box_has b found.point) (boxes_have boxes found.point) found.inside;
          }
    ]

pub some_real-from : (boxes : List AnyBox) (x : PointFields) → IsReal x → boxes_have boxes x ≡ true → list_any has_real_point boxes ≡ true
some_real-from [] x real h = cc
some_real-from (b ∷ boxes) x real h =
    elim (or_cases (box_has b x) (boxes_have boxes x) h) [
      | inl here ↦ or_left (has_real_point b) (list_any has_real_point boxes) ((has_real_point-some b).1 (x, here, real))
      | inr later ↦ or_right (has_real_point b) (list_any has_real_point boxes) (some_real-from boxes x real later)
    ]

-- ---- a box reaches some boxes

record RealMeet (a b : AnyBox) : Type 0 where
  point : PointFields
  real : IsReal point
  first : box_has a point ≡ true
  second : box_has b point ≡ true

real_meet-some : (a b : AnyBox) → real_meet a b ≡ true → RealMeet a b
real_meet-some a b h = go (box_meet a b) (box_laws.meet_has a b) h
  where
    go : (o : Option AnyBox) → ((x : PointFields) → some_has box_has o x ≡ (box_has a x && box_has b x)) →
        option_map_or has_real_point o false ≡ true → RealMeet a b
    go None same h = cc
    go (Some m) same h =
        let found = (has_real_point-some m).0 h in
        let parts = and_parts (box_has a found.0) (box_has b found.0) (sym (same found.0) ∙ found.1) in
        record { point = found.0; real = found.2; first = parts.0; second = parts.1 }

real_meet-from : (a b : AnyBox) (x : PointFields) → IsReal x → box_has a x ≡ true → box_has b x ≡ true → real_meet a b ≡ true
real_meet-from a b x real ha hb = go (box_meet a b) (box_laws.meet_has a b x)
  where
    go : (o : Option AnyBox) → some_has box_has o x ≡ (box_has a x && box_has b x) → option_map_or has_real_point o false ≡ true
    go None same = absurd (false≢true (same ∙ and_from (box_has a x) (box_has b x) ha hb))
    go (Some m) same = (has_real_point-some m).1 (x, same ∙ and_from (box_has a x) (box_has b x) ha hb, real)

pub reaches-some : (boxes : List AnyBox) (region : AnyBox) → reaches boxes region ≡ true → Reaches boxes region
unfolding reaches
reaches-some [] region h = cc
reaches-some (b ∷ boxes) region h =
    elim (or_cases (real_meet region b) (list_any (real_meet region) boxes) h) [
      | inl here ↦
          let found = real_meet-some region b here in
          record {
            point = found.point;
            real = found.real;
            inside = found.first;
            reached = or_left (box_has b found.point) (boxes_have boxes found.point) found.second;
          }
      | inr later ↦
          let found = reaches-some boxes region later in
          record {
            point = found.point;
            real = found.real;
            inside = found.inside;
            reached = or_right (box_has b found.point) (boxes_have boxes found.point) found.reached;
          }
    ]

pub reaches-at : (boxes : List AnyBox) (region : AnyBox) (x : PointFields) → IsReal x → box_has region x ≡ true →
    boxes_have boxes x ≡ true →
    reaches boxes region ≡ true
unfolding reaches
reaches-at [] region x real inside h = cc
reaches-at (b ∷ boxes) region x real inside h =
    elim (or_cases (box_has b x) (boxes_have boxes x) h) [
      | inl here ↦ or_left (real_meet region b) (list_any (real_meet region) boxes) (real_meet-from region b x real inside here)
      | inr later ↦ or_right (real_meet region b) (list_any (real_meet region) boxes) (reaches-at boxes region x real inside later)
    ]

pub reaches-from : (boxes : List AnyBox) (region : AnyBox) → Reaches boxes region → reaches boxes region ≡ true
reaches-from boxes region r = reaches-at boxes region r.point r.real r.inside r.reached

-- ---- the points of some protocols

-- Each value of a point lies on its axis.
record OnAxes (x : PointFields) : Type 0 where
  local : x.local ≤ last_address x.family
  remote : x.remote ≤ last_address x.family
  local_field : x.local_field ≤ opaque_field
  remote_field : x.remote_field ≤ opaque_field

on_axes : (x : PointFields) → is_point x ≡ true → OnAxes x
on_axes x point = record { local = grind arith; remote = grind arith; local_field = grind arith; remote_field = grind arith }

lies_below : (last n : ℕ) → n ≤ last → lies_in (0, last) n ≡ true
lies_below last n h = grind (arith, nat_tests)

pub met_with : (region : AnyBox) (o : Option AnyBox) (x : PointFields) →
    some_has box_has (option_and_then (box_meet region) o) x ≡ (box_has region x && some_has box_has o x)
met_with region None x = sym (and-false (box_has region x))
met_with region (Some b) x = box_laws.meet_has region b x

in_middle : (a b c d e : Bool) → a ≡ true → b ≡ true → d ≡ true → e ≡ true → (a && (b && (c && (d && e)))) ≡ c
in_middle true true true true true ha hb hd he = refl
in_middle true true false true true ha hb hd he = refl
in_middle false b c d e ha hb hd he = cc
in_middle true false c d e ha hb hd he = cc
in_middle true true c false e ha hb hd he = cc
in_middle true true c true false ha hb hd he = cc

-- A point on its axes is in what a box has of some protocols where the box has it and its protocol is one of them,
pub of_protocols-on_axes : (protocols : ℕ × ℕ) (region : AnyBox) (x : PointFields) → protocols.1 ≤ opaque_protocol → is_point x ≡ true →
    some_has box_has (of_protocols protocols region) x ≡ (box_has region x && lies_in protocols x.protocol)
of_protocols-on_axes protocols region x fits point =
    met_with region (box_of (family_of region) (
    (0, last_address (family_of region)) ∷ (0, last_address (family_of region)) ∷ protocols ∷ (0, opaque_field) ∷ (0, opaque_field) ∷ []
    )) x
    ∙ ap (λ (b : Bool). box_has region x && b)
    (box_points (family_of region) (0, last_address (family_of region)) (0, last_address (family_of region)) protocols
    (0, opaque_field) (0, opaque_field) x
    (omega arith) (omega arith) fits (omega arith) (omega arith))
    ∙ go (box_has region x) refl
  where
    go : (here : Bool) → box_has region x ≡ here →
        (here && (same_family (family_of region) x.family
        && (lies_in (0, last_address (family_of region)) x.local && (lies_in (0, last_address (family_of region)) x.remote
        && (lies_in protocols x.protocol && (lies_in (0, opaque_field) x.local_field && lies_in (0, opaque_field) x.remote_field))))))
        ≡ (here && lies_in protocols x.protocol)
    go false e = refl
    go true e =
        let on = on_axes x point in
        let same = (and_parts _ _ e).0 in
        let family = equal_from_same (family_of region) x.family same in
        ap₂ (λ (a b : Bool). a && b) same
        (subst (λ (f : Family). (lies_in (0, last_address f) x.local && (lies_in (0, last_address f) x.remote
        && (lies_in protocols x.protocol && (lies_in (0, opaque_field) x.local_field && lies_in (0, opaque_field) x.remote_field))))
        ≡ lies_in protocols x.protocol)
        (sym family)
        (in_middle (lies_in (0, last_address x.family) x.local) (lies_in (0, last_address x.family) x.remote) (lies_in protocols x.protocol)
        (lies_in (0, opaque_field) x.local_field) (lies_in (0, opaque_field) x.remote_field)
        (lies_below (last_address x.family) x.local on.local) (lies_below (last_address x.family) x.remote on.remote)
        (lies_below opaque_field x.local_field on.local_field) (lies_below opaque_field x.remote_field on.remote_field)))

-- as each real point is.
pub of_protocols-points : (protocols : ℕ × ℕ) (region : AnyBox) (x : PointFields) → protocols.1 ≤ opaque_protocol → IsReal x →
    some_has box_has (of_protocols protocols region) x ≡ (box_has region x && lies_in protocols x.protocol)
of_protocols-points protocols region x fits real = of_protocols-on_axes protocols region x fits (is_point-from_real x real)

-- ---- a box reaches some boxes by a sayable point

pub says-some : (boxes : List AnyBox) (region : AnyBox) → says boxes region ≡ true → Says boxes region
unfolding says
says-some boxes region h = go (of_protocols (1, 255) region) (λ x real. of_protocols-points (1, 255) region x (omega arith) real) h
  where
    go : (o : Option AnyBox) → ((x : PointFields) → IsReal x → some_has box_has o x ≡ (box_has region x && lies_in (1, 255) x.protocol)) →
        option_map_or (reaches boxes) o false ≡ true → Says boxes region
    go None same h = cc
    go (Some part) same h =
        let found = reaches-some boxes part h in
        let parts = and_parts (box_has region found.point) (lies_in (1, 255) found.point.protocol)
        (sym (same found.point found.real) ∙ found.inside) in
        record { point = found.point; real = found.real; inside = parts.0; reached = found.reached; sayable = parts.1 }

pub says-from : (boxes : List AnyBox) (region : AnyBox) → Says boxes region → says boxes region ≡ true
unfolding says
says-from boxes region s =
    go (of_protocols (1, 255) region)
    (of_protocols-points (1, 255) region s.point (omega arith) s.real
    ∙ and_from (box_has region s.point) (lies_in (1, 255) s.point.protocol) s.inside s.sayable)
  where
    go : (o : Option AnyBox) → some_has box_has o s.point ≡ true → option_map_or (reaches boxes) o false ≡ true
    go None has = cc
    go (Some part) has = reaches-at boxes part s.point s.real has s.reached

-- ---- boxes leave a real point outside others

without_each : (h r rest : Bool) → ((h && not r) || (rest && not r)) ≡ ((h || rest) && not r)
without_each true true true = refl
without_each true true false = refl
without_each true false rest = refl
without_each false r rest = refl

cut_each-points : (boxes : List AnyBox) (region : AnyBox) (x : PointFields) →
    boxes_have (cut_each box_minus boxes region) x ≡ (boxes_have boxes x && not (box_has region x))
cut_each-points [] region x = refl
cut_each-points (b ∷ boxes) region x =
    list_any-append (λ r. box_has r x) (box_minus b region) (cut_each box_minus boxes region)
    ∙ ap₂ (λ (p q : Bool). p || q) (box_laws.minus_has b region x) (cut_each-points boxes region x)
    ∙ without_each (box_has b x) (box_has region x) (boxes_have boxes x)

without_both : (h a b : Bool) → ((h && not a) && not b) ≡ (h && not (a || b))
without_both true true b = refl
without_both true false b = refl
without_both false a b = refl

pub cut_all-points : (boxes others : List AnyBox) (x : PointFields) →
    boxes_have (cut_all box_minus boxes others) x ≡ (boxes_have boxes x && not (boxes_have others x))
cut_all-points boxes [] x = go (boxes_have boxes x)
  where
    go : (b : Bool) → b ≡ (b && true)
    go true = refl
    go false = refl
cut_all-points boxes (region ∷ others) x =
    cut_all-points (cut_each box_minus boxes region) others x
    ∙ ap (λ (b : Bool). b && not (boxes_have others x)) (cut_each-points boxes region x)
    ∙ without_both (boxes_have boxes x) (box_has region x) (boxes_have others x)

not_true : (b : Bool) → not b ≡ true → b ≡ false
not_true true h = cc
not_true false h = refl

pub leaves-some : (boxes others : List AnyBox) → leaves boxes others ≡ true → Leaves boxes others
unfolding leaves
leaves-some boxes others h =
    let found = some_real (cut_all box_minus boxes others) h in
    let parts = and_parts (boxes_have boxes found.point) (not (boxes_have others found.point))
    (sym (cut_all-points boxes others found.point) ∙ found.inside) in
    record { point = found.point; real = found.real; inside = parts.0; outside = not_true (boxes_have others found.point) parts.1 }

pub leaves-from : (boxes others : List AnyBox) → Leaves boxes others → leaves boxes others ≡ true
unfolding leaves
leaves-from boxes others l =
    some_real-from (cut_all box_minus boxes others) l.point l.real
    (cut_all-points boxes others l.point ∙ and_from (boxes_have boxes l.point) (not (boxes_have others l.point)) l.inside
    (ap not l.outside))

-- ---- the answers of the tests

pub reached : (result : Bool) (boxes : List AnyBox) (region : AnyBox) → result ≡ reaches boxes region →
    (result ≡ true) ↔ Reaches boxes region
reached result boxes region e = (λ h. reaches-some boxes region (sym e ∙ h), λ r. e ∙ reaches-from boxes region r)

pub said : (result : Bool) (boxes : List AnyBox) (region : AnyBox) → result ≡ says boxes region → (result ≡ true) ↔ Says boxes region
said result boxes region e = (λ h. says-some boxes region (sym e ∙ h), λ r. e ∙ says-from boxes region r)
