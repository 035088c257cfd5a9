-- What was there where a step gave something.
use Rattle.std.proofs.Common.{◌≡◌, refl, Option, Some, None, option_map, option_and_then}
use Rattle.sel_text.specs.Parts.{pair}

pub and_then_some : {X W : Type 0} (f : X → Option W) (o : Option X) (w : W) → option_and_then f o ≡ Some w → (x : X) × (o ≡ Some x) × (f x ≡ Some w)
and_then_some f None w is = absurd cc
and_then_some f (Some x) w is = (x, refl, is)

pub map_some : {X W : Type 0} (f : X → W) (o : Option X) (w : W) → option_map f o ≡ Some w → (x : X) × (o ≡ Some x) × (f x ≡ w)
map_some f None w is = absurd cc
map_some f (Some x) w is = (x, refl, cc)

pub pair_some : {W Y : Type 0} (first : Option W) (second : Option Y) (both : W × Y) → pair first second ≡ Some both
    → (first ≡ Some both.0) × (second ≡ Some both.1)
pair_some None second both is = absurd cc
pair_some (Some w) None both is = absurd cc
pair_some (Some w) (Some y) both is = (cc, cc)
