-- How the boxes of a line come into their lists, one range and one product after another.
use Rattle.std.proofs.Common.{◌≡◌, ℕ, ◌+◌, ◌-◌, ◌<◌, min, Bool, true, false, nat_le, List, [], ◌∷◌, ◌++◌}
use Rattle.std.proofs.Common.{map, flat_map, take, get_or, length, cond, Some, None, ◌&&◌, refl, ap, ◌∙◌, arith}
use Rattle.std.specs.Option.{option_to_list}
use Rattle.std.proofs.lemmas.Bool.Decides.{nat_tests}
use Rattle.std.proofs.lemmas.List.{append-nil, nil_from_length, take_more}
use Rattle.std.proofs.lemmas.List.Concat.{flat_map-append}
use Rattle.sel_region.specs.Interval.{range_from, range_on}
use Rattle.sel_region.specs.Pair.{pair_of}
use Rattle.sel_region.specs.declared.pair.Pair.{Pair}
use Rattle.sel_box.specs.Class.{opaque_field}
use Rattle.sel_text.specs.declared.family.Family.{Family}
use Rattle.spd_line.specs.declared.line.LineParts.{LineParts}
use Rattle.spd_line.specs.LineBoxes.{address_ranges, line_ranges, ordered_range, products}

-- The range of numbers that are below OPAQUE.
pub range_on_fields : (first last : ℕ) → last < opaque_field →
    option_to_list (range_on opaque_field first last) ≡ ordered_range first (min last (opaque_field - 1))
range_on_fields first last below =
    let least : min last (opaque_field - 1) ≡ last = omega arith in
    rw least (go (nat_le first last) (nat_le last opaque_field) refl (grind (arith, nat_tests)))
  where
    go : (in_order on_axis : Bool) → nat_le first last ≡ in_order → on_axis ≡ true →
        option_to_list (cond (in_order && on_axis) (Some (range_from first last)) None) ≡ cond in_order (range_from first last ∷ []) []
    go true on_axis e on = rw on refl
    go false on_axis e on = refl

-- The products of one region more.
pub products-more : {R S : Type 0} (firsts : List R) (seconds : List S) (i : ℕ) (d : R) → i < length firsts →
    products (take (i + 1) firsts) seconds
    ≡ products (take i firsts) seconds ++ map (λ second. pair_of (get_or firsts i d) second) seconds
unfolding products
products-more {R} {S} firsts seconds i d below =
    let each : R → List (Pair R S) = λ first. map (λ second. pair_of first second) seconds in
    ap (flat_map each) (take_more firsts i d below)
    ∙ flat_map-append each (take i firsts) (get_or firsts i d ∷ [])
    ∙ ap (λ last. flat_map each (take i firsts) ++ last) (append-nil (each (get_or firsts i d)))

-- Without a local range of the family there is no product.
pub line_ranges-without_local : (family : Family) (line : LineParts) → length (flat_map (address_ranges family) line.local) ≡ 0 →
    line_ranges family line ≡ []
unfolding line_ranges products
line_ranges-without_local family line none =
    rw (nil_from_length (flat_map (address_ranges family) line.local) none) refl
