-- The boxes that meet a region: whether it reaches some boxes rests on these alone.
use Rattle.std.proofs.Common.{◌≡◌, ℕ, ◌+◌, Bool, true, false, ◌||◌, List, ◌∷◌, length, drop, get_or, Option, Some, None, is_some}
use Rattle.std.proofs.Common.{refl, sym, ap, ◌∙◌}
use Rattle.std.specs.Option.{option_map_or}
use Rattle.sel_region.proofs.Regions.{meet_comm}
use Rattle.sel_box.specs.declared.any_box.AnyBox.{AnyBox}
use Rattle.sel_box.specs.BoxRegion.{box_meet}
use Rattle.sel_box.specs.SomePoint.{has_real_point}
use Rattle.sel_box.specs.laws.BoxLaws.{box_laws}
use Rattle.sel_tree.specs.FirstMet.{IsFirstMet, NoneMet, meets}
use Rattle.ts_cover.specs.RealParts.{reaches, real_meet}
use Rattle.ts_cover.proofs.Skipped.{skipped_all, skipped_to}

-- Boxes that have no point in common have no real one.
none_real : (region other : AnyBox) → meets region other ≡ false → real_meet region other ≡ false
none_real region other apart =
    ap (λ (common : Option AnyBox). option_map_or has_real_point common false) (meet_comm box_laws region other)
    ∙ go (box_meet other region) apart
  where
    go : (common : Option AnyBox) → is_some common ≡ false → option_map_or has_real_point common false ≡ false
    go None none = refl
    go (Some region) none = cc

reaches-passed : (region other : AnyBox) (boxes : List AnyBox) → meets region other ≡ false →
    reaches (other ∷ boxes) region ≡ reaches boxes region
unfolding reaches
reaches-passed region other boxes apart = ap (λ (here : Bool). here || reaches boxes region) (none_real region other apart)

reaches-next : (boxes : List AnyBox) (region other : AnyBox) (from index : ℕ) → IsFirstMet from region boxes index →
    other ≡ get_or boxes index other →
    reaches (drop from boxes) region ≡ (real_meet region other || reaches (drop (index + 1) boxes) region)
unfolding reaches
reaches-next boxes region other from index first is =
    skipped_to (λ (left : List AnyBox). reaches left region) (λ (b : AnyBox). meets region b ≡ false)
    (λ b left. reaches-passed region b left)
    boxes from index other first.after first.within is first.none_before

-- The next box that is met has a real point of the region,
pub reaches-found : (boxes : List AnyBox) (region other : AnyBox) (from index : ℕ) → IsFirstMet from region boxes index →
    other ≡ get_or boxes index other → real_meet region other ≡ true → reaches (drop from boxes) region ≡ true
reaches-found boxes region other from index first is real =
    reaches-next boxes region other from index first is ∙ ap (λ (here : Bool). here || reaches (drop (index + 1) boxes) region) real

-- or it hasn't,
pub reaches-past : (boxes : List AnyBox) (region other : AnyBox) (from index : ℕ) → IsFirstMet from region boxes index →
    other ≡ get_or boxes index other → real_meet region other ≡ false →
    reaches (drop (index + 1) boxes) region ≡ reaches (drop from boxes) region
reaches-past boxes region other from index first is none =
    sym (reaches-next boxes region other from index first is ∙ ap (λ (here : Bool). here || reaches (drop (index + 1) boxes) region) none)

-- or there is none.
pub reaches-end : (boxes : List AnyBox) (region : AnyBox) (from : ℕ) → NoneMet from (length boxes) region boxes →
    reaches (drop from boxes) region ≡ false
unfolding reaches
reaches-end boxes region from none =
    skipped_all (λ (left : List AnyBox). reaches left region) (λ (b : AnyBox). meets region b ≡ false)
    (λ b left. reaches-passed region b left)
    boxes from none
