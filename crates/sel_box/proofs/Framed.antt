-- What is left of a box, put piece by piece into a frame.
use Rattle.std.proofs.Common.{◌≡◌, ◌++◌, List, map, sym, ap, ◌∙◌}
use Rattle.std.proofs.lemmas.Simd.{map-map}
use Rattle.sel_box.specs.declared.any_box.AnyBox.{AnyBox}
use Rattle.sel_text.specs.declared.family.Family.{Family}
use Rattle.sel_text.specs.declared.family.Family.TheVariants.{Four, Six}
use Rattle.sel_box.specs.Boxes.{Ranges, box_from}
use Rattle.sel_box.specs.BoxRegion.{ranges_minus, box_minus}

map-box_minus : {W : Type 0} (around : AnyBox → W) (f : Family) (a b : Ranges) →
    map around (box_minus (box_from f a) (box_from f b)) ≡ map (λ r. around (box_from f r)) (ranges_minus a b)
unfolding box_minus
map-box_minus around Four a b = map-map around (box_from Four) (ranges_minus a b)
map-box_minus around Six a b = map-map around (box_from Six) (ranges_minus a b)

-- Where the pieces of the ranges have come into the frame of their box, the pieces of the box have come into its own.
pub boxes_in_frame : {W : Type 0} (around : AnyBox → W) (f : Family) (a b : AnyBox) (ranges others : Ranges) (before after : List W) →
    a ≡ box_from f ranges → b ≡ box_from f others →
    after ≡ before ++ map (λ r. around (box_from f r)) (ranges_minus ranges others) →
    after ≡ before ++ map around (box_minus a b)
boxes_in_frame around f a b ranges others before after is_a is_b e =
    rw (is_a, is_b) (e ∙ ap (λ pieces. before ++ pieces) (sym (map-box_minus around f ranges others)))
