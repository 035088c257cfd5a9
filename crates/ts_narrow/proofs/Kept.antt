-- Boxes of which one line allows all real points, and the line that keeps the first pair.
use Rattle.std.proofs.Common.{◌≡◌, ℕ, Bool, true, false, cond, List, [], ◌∷◌, Option, Some, None, inl, inr, refl, sym, subst, ap, ◌∙◌}
use Rattle.std.specs.List.{find}
use Rattle.std.proofs.Math.Bool.{or-false}
use Rattle.std.proofs.lemmas.Bool.{cases_Bool, false≢true, false_from_ne_true, or_left}
use Rattle.std.proofs.lemmas.Option.{none-some, same_Some}
use Rattle.sel_box.specs.declared.any_box.AnyBox.{AnyBox}
use Rattle.sel_box.specs.Boxes.{box_has}
use Rattle.sel_box.specs.Point.{IsReal, PointFields}
use Rattle.spd_line.specs.declared.line.LineParts.{LineParts}
use Rattle.ts_cover.specs.Pairs.{boxes_have}
use Rattle.ts_cover.specs.RealParts.{leaves, reaches}
use Rattle.ts_cover.proofs.Reached.{leaves-from, leaves-some, reaches-at, reaches-some}
use Rattle.ts_narrow.specs.declared.meets.Meet.{Meet}
use Rattle.ts_narrow.specs.Allowed.{allowed}
use Rattle.ts_narrow.specs.Meets.{regions_of}
use Rattle.ts_narrow.specs.Narrowing.{kept_link, link_unless_left}
use Rattle.ts_narrow.proofs.Found.{IsListed, find-listed, find-passes, find-some, point-passes, reaches_in}
use Rattle.ts_narrow.proofs.MeetPoints.{allowed-one}

module _ (lines : List LineParts) (list : List Meet)
    (known : (place : ℕ) (x : PointFields) → IsReal x → boxes_have (regions_of place list) x ≡ allowed lines place x)
  where
    -- ---- boxes whose real points one line allows

    pub kept-allowed : (boxes : List AnyBox) (place : ℕ) → leaves boxes (regions_of place list) ≡ false → (x : PointFields) → IsReal x →
        boxes_have boxes x ≡ true → allowed lines place x ≡ true
    kept-allowed boxes place none x real inside =
        elim (cases_Bool (boxes_have (regions_of place list) x)) [
          | inl has ↦ sym (known place x real) ∙ has
          | inr lacks ↦ absurd (false≢true (sym none ∙ leaves-from boxes (regions_of place list)
              (record { point = x; real = real; inside = inside; outside = lacks })))
        ]

    pub allowed-kept : (boxes : List AnyBox) (place : ℕ) →
        ((x : PointFields) → IsReal x → boxes_have boxes x ≡ true → allowed lines place x ≡ true) →
        leaves boxes (regions_of place list) ≡ false
    allowed-kept boxes place all =
        false_from_ne_true (leaves boxes (regions_of place list)) (λ h.
        let l = leaves-some boxes (regions_of place list) h in
        false≢true (sym l.outside ∙ known place l.point l.real ∙ all l.point l.real l.inside))

    -- A listed meet has real points that its line allows alone.
    pub listed-allowed : (meet : Meet) → IsListed list meet → (x : PointFields) → IsReal x → box_has meet.region x ≡ true →
        allowed lines meet.link x ≡ true
    listed-allowed meet listed x real has = sym (known meet.link x real) ∙ listed.points x has

    -- ---- the first pair's box

    -- The first pair's box, and what one line allows of it.
    pub record IsKept (first : AnyBox) (place : ℕ) : Type 0 where
      pub some : reaches (first ∷ []) first ≡ true
      pub all : (x : PointFields) → IsReal x → box_has first x ≡ true → allowed lines place x ≡ true

    pub kept-is : (first : AnyBox) (place : ℕ) → kept_link first list ≡ Some place → IsKept first place
    kept-is first place h = go (find (reaches_in (first ∷ [])) list) refl h
      where
        left : (meet : Meet) → reaches (first ∷ []) meet.region ≡ true → (b : Bool) → leaves (first ∷ []) (regions_of meet.link list) ≡ b →
            cond b None (Some meet.link) ≡ Some place → IsKept first place
        left meet r true e h = absurd (none-some place h)
        left meet r false e h =
            let same : meet.link ≡ place = same_Some meet.link place h in
            let reach = reaches-some (first ∷ []) meet.region r in
            let has : box_has first reach.point ≡ true = sym (or-false (box_has first reach.point)) ∙ reach.reached in
            record {
              some = reaches-at (first ∷ []) first reach.point reach.real has reach.reached;
              all = λ x real has. subst (λ (n : ℕ). allowed lines n x ≡ true) same
                  (kept-allowed (first ∷ []) meet.link e x real (or_left (box_has first x) false has));
            }

        go : (o : Option Meet) → find (reaches_in (first ∷ [])) list ≡ o → link_unless_left first list o ≡ Some place →
            IsKept first place
        go None e h = absurd (none-some place h)
        go (Some meet) e h =
            left meet (find-passes (reaches_in (first ∷ [])) list meet e) (leaves (first ∷ []) (regions_of meet.link list)) refl h

    pub kept-link : (first : AnyBox) (place : ℕ) (y : PointFields) → IsReal y → box_has first y ≡ true →
        ((x : PointFields) → IsReal x → box_has first x ≡ true → allowed lines place x ≡ true) → kept_link first list ≡ Some place
    kept-link first place y real has all = go found.0 found.1
      where
        found : (meet : Meet) × (find (reaches_in (first ∷ [])) list ≡ Some meet)
        found =
            find-some (reaches_in (first ∷ [])) list
            (point-passes (reaches_in (first ∷ [])) place y
            (λ m same inside. reaches-at (first ∷ []) m.region y real inside (or_left (box_has first y) false has)) list
            (known place y real ∙ all y real has))

        go : (meet : Meet) → find (reaches_in (first ∷ [])) list ≡ Some meet → kept_link first list ≡ Some place
        go meet e =
            let z = reaches-some (first ∷ []) meet.region (find-passes (reaches_in (first ∷ [])) list meet e) in
            let inside : box_has first z.point ≡ true = sym (or-false (box_has first z.point)) ∙ z.reached in
            let same : meet.link ≡ place =
            allowed-one lines meet.link place z.point
            (listed-allowed meet (find-listed (reaches_in (first ∷ [])) list meet e) z.point z.real z.inside)
            (all z.point z.real inside) in
            let none : leaves (first ∷ []) (regions_of meet.link list) ≡ false =
            allowed-kept (first ∷ []) meet.link (λ x r h.
            subst (λ (n : ℕ). allowed lines n x ≡ true) (sym same) (all x r (sym (or-false (box_has first x)) ∙ h))) in
            ap (link_unless_left first list) e ∙ ap (λ (b : Bool). cond b None (Some meet.link)) none ∙ ap Some same
