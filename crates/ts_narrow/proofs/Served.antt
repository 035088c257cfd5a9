-- A meet that serves the first pair, and what is written of meets.
use Rattle.std.proofs.Common.{◌≡◌, ℕ, ◌≤◌, Bool, true, false, ◌==◌, ◌&&◌, ◌||◌, cond, leb, List, [], ◌∷◌, Option, Some, None}
use Rattle.std.proofs.Common.{inl, inr, refl, sym, ap, ◌∙◌, arith}
use Rattle.std.specs.List.{find}
use Rattle.std.specs.Option.{unwrap_or}
use Rattle.std.proofs.Math.Bool.{or-false}
use Rattle.std.proofs.lemmas.Bool.{and_from, and_parts, cases_Bool, eqb-true, false≢true, le-leb, leb-true, or_cases, or_left}
use Rattle.std.proofs.lemmas.Option.{none-some}
use Rattle.sel_region.specs.Interval.{high_of}
use Rattle.sel_region.proofs.Regions.{within-by_points}
use Rattle.sel_box.specs.declared.any_box.AnyBox.{AnyBox}
use Rattle.sel_box.specs.declared.any_box.AxisName.{AxisName}
use Rattle.sel_box.specs.BoxRegion.{box_within}
use Rattle.sel_box.specs.Boxes.{box_has, family_of, range_at}
use Rattle.sel_box.specs.Point.{IsReal, PointFields}
use Rattle.sel_box.specs.laws.BoxLaws.{box_laws}
use Rattle.sel_text.specs.Family.{same_family}
use Rattle.ts_span.specs.Span.{lies_in}
use Rattle.ts_span.specs.Spelling.{has_number}
use Rattle.ts_span.proofs.Spans.{lies}
use Rattle.ts_cover.specs.RealParts.{reaches, says}
use Rattle.ts_cover.specs.Writing.{can_write, ends_of, first_part, local_side, written_part}
use Rattle.ts_cover.proofs.Reached.{reaches-at, reaches-some, says-from, says-some}
use Rattle.ts_cover.proofs.Written.{first_part-is, first_part-some, written-can_write, written-holds}
use Rattle.ts_narrow.specs.declared.choice.Choice.{Choice}
use Rattle.ts_narrow.specs.declared.choice.Form.{Form}
use Rattle.ts_narrow.specs.declared.meets.Meet.{Meet}
use Rattle.ts_narrow.specs.Narrowing.{by_link, by_saying, by_serving, choice, kept_link, link_unless_left, serves}
use Rattle.ts_narrow.proofs.Found.{find-passes, reaches_in, says_in}

-- ---- boxes that can be written stay as they are

pub written-same : (boxes : List AnyBox) (region : AnyBox) → can_write region ≡ true → written_part boxes region ≡ region
unfolding written_part
written-same boxes region h = ap (λ (b : Bool). cond b region (unwrap_or (first_part boxes region) region)) h

-- ---- what is written of a box has a real point of the boxes, where the box has a sayable one

pub written-reaches : (boxes : List AnyBox) (region : AnyBox) → says boxes region ≡ true →
    reaches boxes (written_part boxes region) ≡ true
unfolding written_part
written-reaches boxes region h = go (can_write region)
  where
    part : (o : Option AnyBox) → first_part boxes region ≡ o → reaches boxes (unwrap_or o region) ≡ true
    part None e = let some = first_part-some boxes region h in absurd (none-some some.0 (sym e ∙ some.1))
    part (Some q) e = (first_part-is boxes region q e).1.1.reached

    go : (b : Bool) → reaches boxes (cond b region (unwrap_or (first_part boxes region) region)) ≡ true
    go true = let s = says-some boxes region h in reaches-at boxes region s.point s.real s.inside s.reached
    go false = part (first_part boxes region) refl

-- ---- a meet that serves

-- All points of a box of one protocol have that one.
pub number-points : (region : AnyBox) (x : PointFields) → has_number (local_side region) ≡ true → box_has region x ≡ true →
    (x.protocol ≡ (range_at AxisName.Protocol region).low) × (1 ≤ x.protocol) × (x.protocol ≤ 255)
number-points region x number has =
    let low = (range_at AxisName.Protocol region).low in
    let high = high_of (range_at AxisName.Protocol region) in
    let a = and_parts (low == high) (leb 1 low && leb low 255) number in
    let b = and_parts (leb 1 low) (leb low 255) a.1 in
    let one : low ≡ high = eqb-true low high a.0 in
    let from : 1 ≤ low = leb-true 1 low b.0 in
    let to : low ≤ 255 = leb-true low 255 b.1 in
    let c = (and_parts (same_family (family_of region) x.family) _ has).1 in
    let d = (and_parts (lies_in (ends_of (range_at AxisName.Local region)) x.local) _ c).1 in
    let e = (and_parts (lies_in (ends_of (range_at AxisName.Remote region)) x.remote) _ d).1 in
    let f = (and_parts (lies_in (ends_of (range_at AxisName.Protocol region)) x.protocol) _ e).0 in
    let l = lies (low, high) x.protocol f in
    let p : low ≤ x.protocol = l.from in
    let q : x.protocol ≤ high = l.to in
    (omega arith, omega arith, omega arith)

-- What a meet that serves does.
pub record HoldsFirst (first : AnyBox) (place : ℕ) (meet : Meet) : Type 0 where
  pub link : meet.link ≡ place
  pub holds : (x : PointFields) → box_has first x ≡ true → box_has meet.region x ≡ true
  pub writes : (can_write meet.region || has_number (local_side first)) ≡ true

pub serves-is : (first : AnyBox) (place : ℕ) (meet : Meet) → serves first place meet ≡ true → HoldsFirst first place meet
serves-is first place meet h =
    let a = and_parts (meet.link == place) (box_within first meet.region && (can_write meet.region || has_number (local_side first))) h in
    let b = and_parts (box_within first meet.region) (can_write meet.region || has_number (local_side first)) a.1 in
    record { link = eqb-true meet.link place a.0; holds = (within-by_points box_laws first meet.region).0 b.0; writes = b.1 }

-- One that can't be written has a sayable point of the first pair.
pub served-says : (first : AnyBox) (place : ℕ) (meet : Meet) → reaches (first ∷ []) first ≡ true → HoldsFirst first place meet →
    can_write meet.region ≡ false → says (first ∷ []) meet.region ≡ true
served-says first place meet kept serve unwritten =
    elim (or_cases (can_write meet.region) (has_number (local_side first)) serve.writes) [
      | inl whole ↦ absurd (false≢true (sym unwritten ∙ whole))
      | inr number ↦
          let reach = reaches-some (first ∷ []) first kept in
          let n = number-points first reach.point number reach.inside in
          says-from (first ∷ []) meet.region (record {
            point = reach.point;
            real = reach.real;
            inside = serve.holds reach.point reach.inside;
            reached = reach.reached;
            sayable = and_from (leb 1 reach.point.protocol) (leb reach.point.protocol 255) (le-leb 1 reach.point.protocol n.1)
                (le-leb reach.point.protocol 255 n.2);
          })
    ]

pub served-writable : (first : AnyBox) (place : ℕ) (meet : Meet) → reaches (first ∷ []) first ≡ true → HoldsFirst first place meet →
    can_write (written_part (first ∷ []) meet.region) ≡ true
served-writable first place meet kept serve =
    elim (cases_Bool (can_write meet.region)) [
      | inl whole ↦ ap can_write (written-same (first ∷ []) meet.region whole) ∙ whole
      | inr unwritten ↦ written-can_write (first ∷ []) meet.region (served-says first place meet kept serve unwritten)
    ]

pub served-holds : (first : AnyBox) (place : ℕ) (meet : Meet) → HoldsFirst first place meet → (x : PointFields) → IsReal x →
    box_has first x ≡ true → box_has (written_part (first ∷ []) meet.region) x ≡ true
served-holds first place meet serve x real has =
    elim (or_cases (can_write meet.region) (has_number (local_side first)) serve.writes) [
      | inl whole ↦ ap (λ (r : AnyBox). box_has r x) (written-same (first ∷ []) meet.region whole) ∙ serve.holds x has
      | inr number ↦
          written-holds (first ∷ []) meet.region (range_at AxisName.Protocol first).low
          (λ y inside. (number-points first y number (sym (or-false (box_has first y)) ∙ inside)).0) x real
          (or_left (box_has first x) false has) (serve.holds x has)
    ]

-- ---- what is chosen can be written

-- Where a line keeps the first pair, that has a real point.
kept-some : (first : AnyBox) (place : ℕ) (list : List Meet) → kept_link first list ≡ Some place → reaches (first ∷ []) first ≡ true
kept-some first place list h = go (find (reaches_in (first ∷ [])) list) refl h
  where
    go : (o : Option Meet) → find (reaches_in (first ∷ [])) list ≡ o → link_unless_left first list o ≡ Some place →
        reaches (first ∷ []) first ≡ true
    go None e h = absurd (none-some place h)
    go (Some meet) e h =
        let reach = reaches-some (first ∷ []) meet.region (find-passes (reaches_in (first ∷ [])) list meet e) in
        reaches-at (first ∷ []) first reach.point reach.real (sym (or-false (box_has first reach.point)) ∙ reach.reached) reach.reached

abbrev pub IsWritable : Choice → Type 0
IsWritable chosen = chosen.form ≡ Form.Cut → can_write chosen.region ≡ true

pub choice-writable : (cover : List AnyBox) (first : Option AnyBox) (said : Meet) (list : List Meet) → says cover said.region ≡ true →
    IsWritable (choice cover first said list)
choice-writable cover None said list h = λ e. written-can_write cover said.region h
choice-writable cover (Some first) said list h = link (kept_link first list) refl
  where
    serving : (place : ℕ) → reaches (first ∷ []) first ≡ true → (o : Option Meet) → find (serves first place) list ≡ o →
        IsWritable (by_serving first place o)
    serving place some None g = λ e. cc
    serving place some (Some meet) g =
        λ e. served-writable first place meet some (serves-is first place meet (find-passes (serves first place) list meet g))

    saying : (o : Option Meet) → find (says_in (first ∷ [])) list ≡ o → IsWritable (by_saying cover first said o)
    saying None g = λ e. written-can_write cover said.region h
    saying (Some meet) g =
        λ e. written-can_write (first ∷ []) meet.region (find-passes (says_in (first ∷ [])) list meet g)

    link : (o : Option ℕ) → kept_link first list ≡ o → IsWritable (by_link cover first said list o)
    link None g = saying (find (says_in (first ∷ [])) list) refl
    link (Some place) g = serving place (kept-some first place list g) (find (serves first place) list) refl
