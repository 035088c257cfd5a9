-- The searches in a part of a box may begin where those in the box ended.
use Rattle.std.proofs.Common.{◌≡◌, ℕ, ◌<◌, ◌≤◌, ◌⊎◌, inl, inr, Bool, true, false, ◌||◌, List, [], ◌∷◌, ◌++◌, get_or, Option, Some, None, refl, sym, ap, subst, ◌∙◌, arith}
use Rattle.std.specs.Option.{is_some}
use Rattle.std.proofs.lemmas.Bool.{and_from, cases_lt}
use Rattle.sel_region.specs.Region.{some_has}
use Rattle.sel_box.specs.declared.any_box.AnyBox.{AnyBox}
use Rattle.sel_box.specs.Boxes.{box_has}
use Rattle.sel_box.specs.BoxRegion.{box_meet}
use Rattle.sel_box.specs.Point.{PointFields}
use Rattle.sel_box.specs.laws.BoxLaws.{box_laws}
use Rattle.sel_tree.specs.FirstMet.{IsFirstMet, NoneMet, meets}
use Rattle.cert_text.specs.declared.node.Node.{Node}
use Rattle.cert_text.specs.Split.{split_box}
use Rattle.cert_text.specs.Valid.{parts, parts_by}
use Rattle.cert_check.proofs.Agrees.{split-has}
use Rattle.cert_rows.specs.declared.side.Side.{Side}
use Rattle.cert_make.specs.declared.starts.Start.{Start}
use Rattle.cert_make.specs.inner.Starts.{AreStarts, IsStart, first_start, starts_behind, without_first}
use Rattle.cert_make.proofs.Cuts.{common_point}

-- Where no box before an index is met, and none from there on and before an end, none before the end is.
pub none-joined : (b : AnyBox) (regions : List AnyBox) (from end : ℕ) → NoneMet 0 from b regions → NoneMet from end b regions
    → NoneMet 0 end b regions
none-joined b regions from end before behind = λ k d low high. go k d low high (cases_lt k from)
  where
    go : (k : ℕ) (d : AnyBox) → 0 ≤ k → k < end → (k < from) ⊎ (from ≤ k) → meets b (get_or regions k d) ≡ false
    go k d low high (inl early) = before k d low early
    go k d low high (inr late) = behind k d late high

pub first_met-joined : (b : AnyBox) (regions : List AnyBox) (from index : ℕ) → NoneMet 0 from b regions → IsFirstMet from b regions index
    → IsFirstMet 0 b regions index
first_met-joined b regions from index before first = record {
  after = omega arith;
  within = first.within;
  met = first.met;
  none_before = none-joined b regions from index before first.none_before;
}

-- A box whose points are all in another meets nothing that the other doesn't.

abbrev Inside : AnyBox → AnyBox → Type 0
Inside p b = (x : PointFields) → box_has p x ≡ true → box_has b x ≡ true

meets-common : (b other : AnyBox) (x : PointFields) → box_has other x ≡ true → box_has b x ≡ true → meets b other ≡ true
meets-common b other x theirs ours = go (box_meet other b) (box_laws.meet_has other b x ∙ and_from _ _ theirs ours)
  where
    go : (common : Option AnyBox) → some_has box_has common x ≡ true → is_some common ≡ true
    go None has = absurd cc
    go (Some c) has = refl

unmet-inside : (b p other : AnyBox) → Inside p b → meets b other ≡ false → meets p other ≡ false
unmet-inside b p other inside missed = go (meets p other) refl
  where
    go : (met : Bool) → meets p other ≡ met → met ≡ false
    go false is = refl
    go true is =
        let common = common_point p other is in
        let hit = meets-common b other common.0 common.1 (inside common.0 common.2) in
        absurd (cc (sym hit ∙ missed))

none-inside : (b p : AnyBox) → Inside p b → (regions : List AnyBox) (end : ℕ) → NoneMet 0 end b regions → NoneMet 0 end p regions
none-inside b p inside regions end none = λ k d low high. unmet-inside b p (get_or regions k d) inside (none k d low high)

in_first : (whole first second : Bool) → whole ≡ (first || second) → first ≡ true → whole ≡ true
in_first whole first second is has = is ∙ ap (λ (one : Bool). one || second) has

in_second : (whole first second : Bool) → whole ≡ (first || second) → second ≡ true → whole ≡ true
in_second whole true second is has = is
in_second whole false second is has = is ∙ has

module _ (ours theirs : Side) where
  start-inside : (b p : AnyBox) (start : Start) → Inside p b → IsStart ours theirs b start → IsStart ours theirs p start
  start-inside b p start inside is = record {
    of_ours = none-inside b p inside ours.regions start.ours is.of_ours;
    of_theirs = none-inside b p inside theirs.regions start.theirs is.of_theirs;
  }

  -- The start that is taken is that of the next box, and the others are those of the boxes behind it.
  pub starts-taken : (b : AnyBox) (todo boxes : List AnyBox) (start : Start) (starts rest : List Start) → todo ≡ b ∷ boxes
      → start ≡ first_start starts → rest ≡ without_first starts → AreStarts ours theirs todo starts
      → IsStart ours theirs b start × AreStarts ours theirs boxes rest
  starts-taken b todo boxes start starts rest todo_is start_is rest_is all =
      let both = go starts (subst (λ (left : List AnyBox). AreStarts ours theirs left starts) todo_is all) in (
        subst (λ (s : Start). IsStart ours theirs b s) (sym start_is) both.0,
        subst (λ (left : List Start). AreStarts ours theirs boxes left) (sym rest_is) both.1,
      )
    where
      go : (starts : List Start) → AreStarts ours theirs (b ∷ boxes) starts
          → IsStart ours theirs b (first_start starts) × AreStarts ours theirs boxes (without_first starts)
      go [] all = (
        record {
          of_ours = λ k d low high. absurd (omega arith);
          of_theirs = λ k d low high. absurd (omega arith);
        },
        tt,
      )
      go (start ∷ starts) all = all

  parts-start : (b : AnyBox) (cut : Option (AnyBox × AnyBox)) → ((lo hi : AnyBox) → cut ≡ Some (lo, hi) → Inside lo b × Inside hi b)
      → (boxes : List AnyBox) (start : Start) (starts : List Start) → IsStart ours theirs b start → AreStarts ours theirs boxes starts
      → AreStarts ours theirs (parts_by b cut ++ boxes) (start ∷ start ∷ starts)
  parts-start b None inside boxes start starts is all = (is, (is, all))
  parts-start b (Some both) inside boxes start starts is all =
      let lie = inside both.0 both.1 refl in
      (start-inside b both.0 start lie.0 is, (start-inside b both.1 start lie.1 is, all))

  behind-start : (node : Node) (b : AnyBox) (boxes : List AnyBox) (start : Start) (starts : List Start) → IsStart ours theirs b start
      → AreStarts ours theirs boxes starts → AreStarts ours theirs (parts node b ++ boxes) (starts_behind node start ++ starts)
  behind-start (Node.Leaf i j) b boxes start starts is all = all
  behind-start Node.Void b boxes start starts is all = all
  behind-start (Node.Split axis value) b boxes start starts is all =
      parts-start b (split_box axis value b)
      (λ lo hi cut_is. (
        λ x. in_first (box_has b x) (box_has lo x) (box_has hi x) (split-has axis value b lo hi cut_is x),
        λ x. in_second (box_has b x) (box_has lo x) (box_has hi x) (split-has axis value b lo hi cut_is x),
      ))
      boxes start starts is all

  -- Behind a node the start of its box is that of its parts.
  pub starts-added : (node : Node) (b : AnyBox) (boxes boxes' : List AnyBox) (start : Start) (starts starts' : List Start)
      → boxes' ≡ parts node b ++ boxes → starts' ≡ starts_behind node start ++ starts → IsStart ours theirs b start
      → AreStarts ours theirs boxes starts → AreStarts ours theirs boxes' starts'
  starts-added node b boxes boxes' start starts starts' boxes_is starts_is is all =
      subst (λ (left : List AnyBox). AreStarts ours theirs left starts') (sym boxes_is)
      (subst (λ (left : List Start). AreStarts ours theirs (parts node b ++ boxes) left) (sym starts_is)
      (behind-start node b boxes start starts is all))
