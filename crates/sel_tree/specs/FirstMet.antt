-- The first box of a list that meets another.
use Rattle.std.specs.Prelude.{◌≡◌, ℕ, ◌≤◌, ◌<◌, Bool, true, false, List, Option, drop, length, slice_get, Some}
use Rattle.std.specs.List.{AllWithin, position_from}
use Rattle.std.specs.Option.{is_some}
use Rattle.sel_box.specs.declared.any_box.AnyBox.{AnyBox}
use Rattle.sel_box.specs.BoxRegion.{box_meet}

-- the box of a list meets the region: some point is in both
abbrev pub meets : AnyBox → AnyBox → Bool
meets region listed = is_some (box_meet listed region)

-- the index of the first box, from an index on, that meets the region; indices count from 0
abbrev pub first_met_from : ℕ → AnyBox → List AnyBox → Option ℕ
first_met_from from region regions = position_from (meets region) from (drop from regions)

-- no box from an index on, and before another index, meets the region
abbrev pub NoneMet : ℕ → ℕ → AnyBox → List AnyBox → Type 0
NoneMet from end region regions = AllWithin (λ listed. meets region listed ≡ false) regions from end

-- the box at the index meets the region, and none does from an index on and before that one
pub record IsFirstMet (from : ℕ) (region : AnyBox) (regions : List AnyBox) (index : ℕ) : Type 0 where
  pub after : from ≤ index
  pub within : index < length regions
  pub met : (listed : AnyBox) → slice_get regions index ≡ Some listed → meets region listed ≡ true
  pub none_before : NoneMet from index region regions
