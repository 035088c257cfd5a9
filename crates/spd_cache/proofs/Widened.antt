-- Hulls that take boxes in, and a point that no hull has.
use Rattle.std.proofs.Common.{◌≡◌, ℕ, ◌+◌, ◌<◌, Bool, true, false, ◌||◌, cond, List, [], ◌∷◌, length, take, get_or, Option}
use Rattle.std.proofs.Common.{Some, None, IfSome, refl, subst, ap, ◌∙◌}
use Rattle.std.proofs.lemmas.Bool.{both_ways, false_from_ne_true}
use Rattle.std.proofs.lemmas.List.Elements.{All-head, All-more, All-tail, All-weaker}
use Rattle.sel_region.specs.Region.{some_has}
use Rattle.sel_region.proofs.Regions.{within-by_points}
use Rattle.sel_box.specs.declared.any_box.AnyBox.{AnyBox}
use Rattle.sel_box.specs.BoxRegion.{box_within, ranges_within}
use Rattle.sel_box.specs.Boxes.{Ranges, box_has}
use Rattle.sel_box.specs.Point.{PointFields}
use Rattle.sel_box.specs.laws.BoxLaws.{box_laws}
use Rattle.spd_line.specs.declared.line_boxes.LineBox.{LineBox}
use Rattle.spd_cache.specs.declared.hulls.Hulls.{Hulls}
use Rattle.spd_cache.specs.Cached.{first_box}
use Rattle.spd_cache.specs.inner.Hulls.{AreHulls, HaveAll, StillHave, hulls_have}

-- A box within another has its points alone.
within_has : (a b : AnyBox) → box_within a b ≡ true → (x : PointFields) → box_has a x ≡ true → box_has b x ≡ true
within_has a b = (within-by_points box_laws a b).0

module _ (box_of : Ranges → AnyBox) (law : (a b : Ranges) → ranges_within a b ≡ true → box_within (box_of a) (box_of b) ≡ true) where
  abbrev hull_has : Ranges → PointFields → Bool
  hull_has hull x = box_has (box_of hull) x

  wider : (old : Option Ranges) (new : Ranges) → IfSome old (λ hull. ranges_within hull new ≡ true) → (x : PointFields) →
      some_has hull_has old x ≡ true → box_has (box_of new) x ≡ true
  wider None new within x has = absurd (both_ways false refl has)
  wider (Some hull) new within x has = within_has (box_of hull) (box_of new) (law hull new within) x has

or-first : (a a' b : Bool) → (a ≡ true → a' ≡ true) → (a || b) ≡ true → (a' || b) ≡ true
or-first true a' b more e = ap (λ (here : Bool). here || b) (more refl)
or-first false true b more e = refl
or-first false false b more e = e

or-second : (a b b' : Bool) → (b ≡ true → b' ≡ true) → (a || b) ≡ true → (a || b') ≡ true
or-second true b b' more e = refl
or-second false b b' more e = more e

or-here : (a b : Bool) → a ≡ true → (a || b) ≡ true
or-here true b e = refl
or-here false b e = cc

or-there : (a b : Bool) → b ≡ true → (a || b) ≡ true
or-there true b e = refl
or-there false b e = e

-- Hulls of which that of one family was widened.
abbrev pub hulls : Option Ranges → Option Ranges → Hulls
hulls four six = record { four = four; six = six }

abbrev four_has : Ranges → PointFields → Bool
four_has hull x = box_has (AnyBox.Four hull) x

abbrev six_has : Ranges → PointFields → Bool
six_has hull x = box_has (AnyBox.Six hull) x

pub still-four : (four six : Option Ranges) (new : Ranges) → IfSome four (λ hull. ranges_within hull new ≡ true) →
    StillHave (hulls four six) (hulls (Some new) six)
still-four four six new within x =
    or-first (some_has four_has four x) (four_has new x) (some_has six_has six x) (wider AnyBox.Four (λ a b e. e) four new within x)

pub still-six : (four six : Option Ranges) (new : Ranges) → IfSome six (λ hull. ranges_within hull new ≡ true) →
    StillHave (hulls four six) (hulls four (Some new))
still-six four six new within x =
    or-second (some_has four_has four x) (some_has six_has six x) (six_has new x) (wider AnyBox.Six (λ a b e. e) six new within x)

pub here-four : (six : Option Ranges) (new ranges : Ranges) → ranges_within ranges new ≡ true → HaveAll (hulls (Some new) six) (AnyBox.Four ranges)
here-four six new ranges within x has =
    or-here (four_has new x) (some_has six_has six x) (within_has (AnyBox.Four ranges) (AnyBox.Four new) within x has)

pub here-six : (four : Option Ranges) (new ranges : Ranges) → ranges_within ranges new ≡ true → HaveAll (hulls four (Some new)) (AnyBox.Six ranges)
here-six four new ranges within x has =
    or-there (some_has four_has four x) (six_has new x) (within_has (AnyBox.Six ranges) (AnyBox.Six new) within x has)

-- One more box of a list.
pub hulls_more : (before now : Hulls) (boxes : List LineBox) (i : ℕ) (box : LineBox) → i < length boxes → box ≡ get_or boxes i box →
    StillHave before now → HaveAll now box.region → AreHulls before (take i boxes) → AreHulls now (take (i + 1) boxes)
hulls_more before now boxes i box below is still here all =
    All-more (λ (b : LineBox). HaveAll now b.region) boxes i box below
    (All-weaker (λ (b : LineBox). HaveAll before b.region) (λ (b : LineBox). HaveAll now b.region)
    (λ b have x has. still x (have x has)) (take i boxes) all)
    (subst (λ (b : LineBox). HaveAll now b.region) is here)

-- Where no hull has a point, no box has it.
pub none_has : (hulls : Hulls) (x : PointFields) (boxes : List LineBox) → AreHulls hulls boxes → hulls_have hulls x ≡ false →
    first_box x boxes ≡ None
none_has hulls x [] all lacks = refl
none_has hulls x (box ∷ boxes) all lacks =
    ap (λ (here : Bool). cond here (Some box) (first_box x boxes))
    (false_from_ne_true _ (λ has. both_ways _ lacks (All-head (λ (b : LineBox). HaveAll hulls b.region) box boxes all x has)))
    ∙ none_has hulls x boxes (All-tail (λ (b : LineBox). HaveAll hulls b.region) box boxes all) lacks
