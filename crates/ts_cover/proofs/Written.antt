-- The part of a box that is written.
use Rattle.std.proofs.Common.{◌≡◌, ℕ, zero, suc, ◌+◌, ◌<◌, ◌≤◌, Bool, true, false, ◌&&◌, cond, eqb, leb, List, [], ◌∷◌, Option, Some, None}
use Rattle.std.proofs.Common.{inl, inr, refl, sym, subst, ap, ◌∙◌, arith}
use Rattle.std.specs.List.{cons_option, filter_map, find, range_with_len}
use Rattle.std.specs.Option.{unwrap_or}
use Rattle.std.proofs.lemmas.Bool.{and_from, and_parts, cases_eq, eq-eqb, eqb-true, false≢true, le-leb, or_left}
use Rattle.std.proofs.lemmas.Option.{none-some, same_Some}
use Rattle.sel_region.specs.Interval.{high_of}
use Rattle.sel_region.specs.Region.{some_has}
use Rattle.sel_box.specs.declared.any_box.AnyBox.{AnyBox}
use Rattle.sel_box.specs.declared.any_box.AxisName.{AxisName}
use Rattle.sel_box.specs.Bounds.{box_of}
use Rattle.sel_box.specs.BoxRegion.{box_low}
use Rattle.sel_box.specs.Boxes.{box_has, family_of, range_at, value_at}
use Rattle.sel_box.specs.Class.{opaque_field, opaque_protocol}
use Rattle.sel_box.specs.Point.{IsReal, PointFields, is_point}
use Rattle.sel_box.specs.laws.BoxLaws.{box_laws, equal_from_same}
use Rattle.sel_box.proofs.BoxAxes.{box_has-by_axes}
use Rattle.sel_text.specs.declared.family.Family.{Family}
use Rattle.sel_text.specs.Family.{last_address, same_family}
use Rattle.ts_span.specs.Span.{lies_in}
use Rattle.ts_span.specs.Spelling.{has_all_protocols, has_number, is_writable}
use Rattle.ts_span.proofs.Spans.{lies, lies_from, same_test}
use Rattle.ts_cover.specs.Pairs.{boxes_have}
use Rattle.ts_cover.specs.RealParts.{of_protocols, reaches, says}
use Rattle.ts_cover.specs.Writing.{can_write, first_part, local_side, remote_side, written_part}
use Rattle.ts_cover.proofs.PairPoints.{box_points}
use Rattle.ts_cover.proofs.Reached.{met_with, of_protocols-on_axes, of_protocols-points, reaches-at, reaches-some, says-some}

-- ---- the part of one protocol

-- Each of its points is on its axes and the box's, and has the protocol.
record IsInside (protocols : ℕ × ℕ) (region : AnyBox) (x : PointFields) : Type 0 where
  point : is_point x ≡ true
  has : box_has region x ≡ true
  lies_there : lies_in protocols x.protocol ≡ true

on_axes : (x : PointFields) → x.local ≤ last_address x.family → x.remote ≤ last_address x.family → x.protocol ≤ opaque_protocol →
    x.local_field ≤ opaque_field → x.remote_field ≤ opaque_field → is_point x ≡ true
on_axes x a b c d e =
    and_from _ _
    (and_from _ _
    (and_from _ _ (and_from _ _ (le-leb x.local (last_address x.family) a) (le-leb x.remote (last_address x.family) b))
    (le-leb x.protocol opaque_protocol c))
    (le-leb x.local_field opaque_field d))
    (le-leb x.remote_field opaque_field e)

of_protocols-inside : (protocols : ℕ × ℕ) (region : AnyBox) (x : PointFields) → protocols.1 ≤ opaque_protocol →
    some_has box_has (of_protocols protocols region) x ≡ true → IsInside protocols region x
of_protocols-inside protocols region x fits h =
    let last = last_address (family_of region) in
    let bounds = (0, last) ∷ (0, last) ∷ protocols ∷ (0, opaque_field) ∷ (0, opaque_field) ∷ [] in
    let parts = and_parts (box_has region x) (some_has box_has (box_of (family_of region) bounds) x)
    (sym (met_with region (box_of (family_of region) bounds) x) ∙ h) in
    let inside = sym (box_points (family_of region) (0, last) (0, last) protocols (0, opaque_field) (0, opaque_field) x
    (omega arith) (omega arith) fits (omega arith) (omega arith)) ∙ parts.1 in
    let a = and_parts (same_family (family_of region) x.family) _ inside in
    let b = and_parts (lies_in (0, last) x.local) _ a.1 in
    let c = and_parts (lies_in (0, last) x.remote) _ b.1 in
    let d = and_parts (lies_in protocols x.protocol) _ c.1 in
    let e = and_parts (lies_in (0, opaque_field) x.local_field) (lies_in (0, opaque_field) x.remote_field) d.1 in
    let Last : Family → Type 0 = λ f. (x.local ≤ last_address f) × (x.remote ≤ last_address f) in
    let addresses = subst Last (equal_from_same (family_of region) x.family a.0)
    ((lies (0, last) x.local b.0).to, (lies (0, last) x.remote c.0).to) in
    let to : x.protocol ≤ protocols.1 = (lies protocols x.protocol d.0).to in
    record {
      point = on_axes x addresses.0 addresses.1 (omega arith) (lies (0, opaque_field) x.local_field e.0).to
          (lies (0, opaque_field) x.remote_field e.1).to;
      has = parts.0;
      lies_there = d.0;
    }

one_number : (protocol n : ℕ) → lies_in (n, n) protocol ≡ true → protocol ≡ n
one_number protocol n h = let l = lies (n, n) protocol h in let a = l.from in let b = l.to in omega arith

-- A box whose points all have one protocol has that one from its low to its high.
pub record OneProtocol (part : AnyBox) (n : ℕ) : Type 0 where
  pub low : (range_at AxisName.Protocol part).low ≡ n
  pub high : high_of (range_at AxisName.Protocol part) ≡ n

-- The least point of a box, but with its greatest protocol.
abbrev low_but_protocol : AnyBox → PointFields
low_but_protocol part = record (box_low part) { protocol = high_of (range_at AxisName.Protocol part) }

low_but_protocol-inside : (part : AnyBox) → box_has part (low_but_protocol part) ≡ true
low_but_protocol-inside part = (box_has-by_axes part (low_but_protocol part)).1 (record {
  of_family = refl;
  from_low = λ axis. from axis;
  to_high = λ axis. to axis;
})
  where
    from : (axis : AxisName) → (range_at axis part).low ≤ value_at axis (low_but_protocol part)
    from AxisName.Local = omega arith
    from AxisName.Remote = omega arith
    from AxisName.Protocol = omega arith
    from AxisName.LocalField = omega arith
    from AxisName.RemoteField = omega arith

    to : (axis : AxisName) → value_at axis (low_but_protocol part) ≤ high_of (range_at axis part)
    to AxisName.Local = omega arith
    to AxisName.Remote = omega arith
    to AxisName.Protocol = omega arith
    to AxisName.LocalField = omega arith
    to AxisName.RemoteField = omega arith

pub one_protocol : (part : AnyBox) (n : ℕ) → ((x : PointFields) → box_has part x ≡ true → x.protocol ≡ n) → OneProtocol part n
one_protocol part n all = record {
  low = all (box_low part) (box_laws.has_low part);
  high = all (low_but_protocol part) (low_but_protocol-inside part);
}

pub number_writes : (low high n : ℕ) → low ≡ n → high ≡ n → 1 ≤ n → n ≤ 255 →
    (eqb low high && (leb 1 low && leb low 255)) ≡ true
number_writes low high n a b from to =
    and_from _ _ (eq-eqb low high (omega arith)) (and_from _ _ (le-leb 1 low (omega arith)) (le-leb low 255 (omega arith)))

part-can_write : (part : AnyBox) (n : ℕ) → OneProtocol part n → 1 ≤ n → n ≤ 255 → can_write part ≡ true
part-can_write part n one from to =
    let number = number_writes (range_at AxisName.Protocol part).low
    (high_of (range_at AxisName.Protocol part)) n one.low one.high from to in
    and_from (is_writable (local_side part)) (is_writable (remote_side part))
    (or_left (has_number (local_side part)) (has_all_protocols (local_side part)) number)
    (or_left (has_number (remote_side part)) (has_all_protocols (remote_side part)) number)

-- ---- the first part that reaches the boxes

-- The part is that of this protocol, which is the first from one on with which the box reaches the boxes.
pub record IsFirstPart (boxes : List AnyBox) (region part : AnyBox) (from : ℕ) (protocol : ℕ) : Type 0 where
  pub above : from ≤ protocol
  pub is : of_protocols (protocol, protocol) region ≡ Some part
  pub reached : reaches boxes part ≡ true
  pub first : (k : ℕ) → from ≤ k → k < protocol → (q : AnyBox) → of_protocols (k, k) region ≡ Some q → reaches boxes q ≡ false

abbrev part_at : AnyBox → ℕ → Option AnyBox
part_at region n = of_protocols (n, n) region

abbrev first_from : List AnyBox → AnyBox → ℕ → ℕ → Option AnyBox
first_from boxes region a n = find (reaches boxes) (filter_map (part_at region) (range_with_len a n))

abbrev Found : List AnyBox → AnyBox → AnyBox → ℕ → ℕ → Type 0
Found boxes region part a n = (protocol : ℕ) × ((protocol < a + n) × IsFirstPart boxes region part a protocol)

found_later : (boxes : List AnyBox) (region part : AnyBox) (a n : ℕ) →
    ((q : AnyBox) → part_at region a ≡ Some q → reaches boxes q ≡ false) → Found boxes region part (a + 1) n →
    Found boxes region part a (suc n)
found_later boxes region part a n here (protocol, (below, later)) =
    let above = later.above in (
      protocol,
      (
        omega arith,
        record {
          above = omega arith;
          is = later.is;
          reached = later.reached;
          first = λ k from under q e. elim (cases_eq a k) [
            | inl same ↦ here q (subst (λ (j : ℕ). part_at region j ≡ Some q) (sym same) e)
            | inr other ↦ later.first k (omega arith) under q e
          ];
        },
      ),
    )

found-at : (boxes : List AnyBox) (region part : AnyBox) (a n : ℕ) (rest : Option AnyBox) →
    (rest ≡ Some part → Found boxes region part (a + 1) n) →
    (q : AnyBox) → part_at region a ≡ Some q → (b : Bool) → reaches boxes q ≡ b → cond b (Some q) rest ≡ Some part →
    Found boxes region part a (suc n)
found-at boxes region part a n rest later q e true r h =
    let same : q ≡ part = same_Some q part h in (
      a,
      (
        omega arith,
        record {
          above = omega arith;
          is = e ∙ ap Some same;
          reached = subst (λ (p : AnyBox). reaches boxes p ≡ true) same r;
          first = λ k from under. absurd (omega arith);
        },
      ),
    )
found-at boxes region part a n rest later q e false r h =
    found_later boxes region part a n
    (λ p f. let same : q ≡ p = same_Some q p (sym e ∙ f) in subst (λ (p : AnyBox). reaches boxes p ≡ false) same r)
    (later h)

found-first : (boxes : List AnyBox) (region part : AnyBox) (a n : ℕ) → first_from boxes region a n ≡ Some part → Found boxes region part a n
found-first boxes region part a zero h = absurd (none-some part h)
found-first boxes region part a (suc n) h = go (found-first boxes region part (a + 1) n) (part_at region a) refl h
  where
    go : (first_from boxes region (a + 1) n ≡ Some part → Found boxes region part (a + 1) n) →
        (o : Option AnyBox) → part_at region a ≡ o →
        find (reaches boxes) (cons_option o (filter_map (part_at region) (range_with_len (a + 1) n))) ≡ Some part →
        Found boxes region part a (suc n)
    go later None e h = found_later boxes region part a n (λ q f. absurd (none-some q (sym e ∙ f))) (later h)
    go later (Some q) e h = found-at boxes region part a n (first_from boxes region (a + 1) n) later q e (reaches boxes q) refl h

abbrev SomeFirst : List AnyBox → AnyBox → ℕ → ℕ → Type 0
SomeFirst boxes region a n = (part : AnyBox) × (first_from boxes region a n ≡ Some part)

first-at : (boxes : List AnyBox) (rest : Option AnyBox) (p q : AnyBox) → (reaches boxes p ≡ false → (part : AnyBox) × (rest ≡ Some part)) →
    (b : Bool) → reaches boxes p ≡ b → (part : AnyBox) × (cond b (Some p) rest ≡ Some part)
first-at boxes rest p q later true t = (p, refl)
first-at boxes rest p q later false t = later t

first-some : (boxes : List AnyBox) (region : AnyBox) (a n k : ℕ) (q : AnyBox) → a ≤ k → k < a + n →
    part_at region k ≡ Some q → reaches boxes q ≡ true → SomeFirst boxes region a n
first-some boxes region a zero k q low high e r = absurd (omega arith)
first-some boxes region a (suc n) k q low high e r =
    go (λ other. first-some boxes region (a + 1) n k q (omega arith) (omega arith) e r) (part_at region a) refl
  where
    go : ((a ≡ k → ⊥) → SomeFirst boxes region (a + 1) n) → (o : Option AnyBox) → part_at region a ≡ o →
        (part : AnyBox) × (find (reaches boxes) (cons_option o (filter_map (part_at region) (range_with_len (a + 1) n))) ≡ Some part)
    go later None f = later (λ same. none-some q (sym f ∙ subst (λ (j : ℕ). part_at region j ≡ Some q) (sym same) e))
    go later (Some p) f =
        first-at boxes (first_from boxes region (a + 1) n) p q
        (λ t. later (λ same.
        let equal : p ≡ q = same_Some p q (sym f ∙ subst (λ (j : ℕ). part_at region j ≡ Some q) (sym same) e) in
        false≢true (sym t ∙ subst (λ (b : AnyBox). reaches boxes b ≡ true) (sym equal) r)))
        (reaches boxes p) refl

-- A box that has a sayable real point in the boxes has such a part.
pub first_part-some : (boxes : List AnyBox) (region : AnyBox) → says boxes region ≡ true →
    (part : AnyBox) × (first_part boxes region ≡ Some part)
unfolding first_part
first_part-some boxes region h =
    let s = says-some boxes region h in
    let l = lies (1, 255) s.point.protocol s.sayable in
    let from = l.from in
    let to = l.to in
    go s.point s.real s.inside s.reached from to (part_at region s.point.protocol) refl
  where
    go : (x : PointFields) → IsReal x → box_has region x ≡ true → boxes_have boxes x ≡ true → 1 ≤ x.protocol → x.protocol ≤ 255 →
        (o : Option AnyBox) → part_at region x.protocol ≡ o → SomeFirst boxes region 1 255
    go x real inside reached from to o e =
        let has : some_has box_has o x ≡ true =
        subst (λ (o : Option AnyBox). some_has box_has o x ≡ true) e
        (of_protocols-points (x.protocol, x.protocol) region x (omega arith) real
        ∙ and_from (box_has region x) (lies_in (x.protocol, x.protocol) x.protocol) inside
        (lies_from (x.protocol, x.protocol) x.protocol (record { from = omega arith; to = omega arith }))) in
        some o e has
      where
        some : (o : Option AnyBox) → part_at region x.protocol ≡ o → some_has box_has o x ≡ true → SomeFirst boxes region 1 255
        some None e has = cc
        some (Some q) e has = first-some boxes region 1 255 x.protocol q from (omega arith) e (reaches-at boxes q x real has reached)

pub first_part-is : (boxes : List AnyBox) (region part : AnyBox) → first_part boxes region ≡ Some part → Found boxes region part 1 255
unfolding first_part
first_part-is boxes region part h = found-first boxes region part 1 255 h

-- With a lesser protocol the box has no real point of the boxes.
pub first_part-least : (boxes : List AnyBox) (region part : AnyBox) (from protocol : ℕ) → IsFirstPart boxes region part from protocol →
    (k : ℕ) → from ≤ k → k < protocol → k ≤ 255 →
    (x : PointFields) → IsReal x → box_has region x ≡ true → boxes_have boxes x ≡ true → x.protocol ≡ k → ⊥
first_part-least boxes region part from protocol found k low under to x real inside reached is =
    go (part_at region k) refl
    (of_protocols-points (k, k) region x (omega arith) real
    ∙ and_from (box_has region x) (lies_in (k, k) x.protocol) inside
    (lies_from (k, k) x.protocol (record { from = omega arith; to = omega arith })))
  where
    go : (o : Option AnyBox) → part_at region k ≡ o → some_has box_has o x ≡ true → ⊥
    go None e has = cc
    go (Some q) e has = false≢true (sym (found.first k low under q e) ∙ reaches-at boxes q x real has reached)

pub part_points : (region part : AnyBox) (n : ℕ) → n ≤ 255 → part_at region n ≡ Some part → (x : PointFields) → box_has part x ≡ true →
    (box_has region x ≡ true) × (x.protocol ≡ n)
part_points region part n to e x has =
    let inside = of_protocols-inside (n, n) region x (omega arith)
    (subst (λ (o : Option AnyBox). some_has box_has o x ≡ true) (sym e) has) in
    (inside.has, one_number x.protocol n inside.lies_there)

-- The part has the points of the box that are on their axes and have the protocol.
pub part-has : (region part : AnyBox) (n : ℕ) → n ≤ 255 → part_at region n ≡ Some part → (x : PointFields) →
    box_has part x ≡ (is_point x && (box_has region x && (eqb x.protocol n)))
part-has region part n to e x = same_test (box_has part x) (is_point x && (box_has region x && (eqb x.protocol n))) there back
  where
    there : box_has part x ≡ true → (is_point x && (box_has region x && (eqb x.protocol n))) ≡ true
    there h =
        let inside = of_protocols-inside (n, n) region x (omega arith)
        (subst (λ (o : Option AnyBox). some_has box_has o x ≡ true) (sym e) h) in
        and_from (is_point x) (box_has region x && (eqb x.protocol n)) inside.point
        (and_from (box_has region x) (eqb x.protocol n) inside.has (eq-eqb x.protocol n (one_number x.protocol n inside.lies_there)))

    back : (is_point x && (box_has region x && (eqb x.protocol n))) ≡ true → box_has part x ≡ true
    back h =
        let p = and_parts (is_point x) (box_has region x && (eqb x.protocol n)) h in
        let q = and_parts (box_has region x) (eqb x.protocol n) p.1 in
        let same : x.protocol ≡ n = eqb-true x.protocol n q.1 in
        subst (λ (o : Option AnyBox). some_has box_has o x ≡ true) e
        (of_protocols-on_axes (n, n) region x (omega arith) p.0
        ∙ and_from (box_has region x) (lies_in (n, n) x.protocol) q.0
        (lies_from (n, n) x.protocol (record { from = omega arith; to = omega arith })))

-- ---- the written part

pub written-can_write : (boxes : List AnyBox) (region : AnyBox) → says boxes region ≡ true → can_write (written_part boxes region) ≡ true
unfolding written_part
written-can_write boxes region h = go (can_write region) refl
  where
    part : (o : Option AnyBox) → first_part boxes region ≡ o → can_write (unwrap_or o region) ≡ true
    part None e = let some = first_part-some boxes region h in absurd (none-some some.0 (sym e ∙ some.1))
    part (Some q) e =
        let found = first_part-is boxes region q e in
        let above = found.1.1.above in
        let below = found.1.0 in
        let to : found.0 ≤ 255 = omega arith in
        part-can_write q found.0 (one_protocol q found.0 (λ x has. (part_points region q found.0 to found.1.1.is x has).1)) above to

    go : (b : Bool) → can_write region ≡ b → can_write (cond b region (unwrap_or (first_part boxes region) region)) ≡ true
    go true e = e
    go false e = part (first_part boxes region) refl

pub written-inside : (boxes : List AnyBox) (region : AnyBox) (x : PointFields) → box_has (written_part boxes region) x ≡ true →
    box_has region x ≡ true
unfolding written_part
written-inside boxes region x = go (can_write region)
  where
    part : (o : Option AnyBox) → first_part boxes region ≡ o → box_has (unwrap_or o region) x ≡ true → box_has region x ≡ true
    part None e h = h
    part (Some q) e h =
        let found = first_part-is boxes region q e in
        let below = found.1.0 in
        (part_points region q found.0 (omega arith) found.1.1.is x h).0

    go : (b : Bool) → box_has (cond b region (unwrap_or (first_part boxes region) region)) x ≡ true → box_has region x ≡ true
    go true h = h
    go false h = part (first_part boxes region) refl h

-- Where all points of the boxes have one protocol, the part has each real point of them that the box has.
pub written-holds : (boxes : List AnyBox) (region : AnyBox) (n : ℕ) → ((y : PointFields) → boxes_have boxes y ≡ true → y.protocol ≡ n) →
    (x : PointFields) → IsReal x → boxes_have boxes x ≡ true → box_has region x ≡ true → box_has (written_part boxes region) x ≡ true
unfolding written_part
written-holds boxes region n one x real reached inside = go (can_write region)
  where
    part : (o : Option AnyBox) → first_part boxes region ≡ o → box_has (unwrap_or o region) x ≡ true
    part None e = inside
    part (Some q) e =
        let found = first_part-is boxes region q e in
        let below = found.1.0 in
        let to : found.0 ≤ 255 = omega arith in
        let at = reaches-some boxes q found.1.1.reached in
        let same : found.0 ≡ n = sym (part_points region q found.0 to found.1.1.is at.point at.inside).1 ∙ one at.point at.reached in
        let here : x.protocol ≡ n = one x reached in
        subst (λ (o : Option AnyBox). some_has box_has o x ≡ true) found.1.1.is
        (of_protocols-points (found.0, found.0) region x (omega arith) real
        ∙ and_from (box_has region x) (lies_in (found.0, found.0) x.protocol) inside
        (lies_from (found.0, found.0) x.protocol (record { from = omega arith; to = omega arith })))

    go : (b : Bool) → box_has (cond b region (unwrap_or (first_part boxes region) region)) x ≡ true
    go true = inside
    go false = part (first_part boxes region) refl
