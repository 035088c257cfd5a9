-- Pieces of boxes that are still to be cut, each by the regions of a list from an index on.
use Rattle.std.specs.Prelude.{ℕ, ◌+◌, Bool, List, [], ◌∷◌, drop, map, if◌then◌else◌}
use Rattle.std.specs.List.{list_any, sum_by}
use Rattle.sel_box.specs.declared.any_box.AnyBox.{AnyBox}
use Rattle.sel_box.specs.BoxRegion.{box_minus}
use Rattle.sel_tree.specs.FirstMet.{meets}
use Rattle.ts_cover.specs.RealParts.{leaves}
use Rattle.ts_narrow.specs.declared.leaving.Rest.{Rest}

-- The pieces, each with the index.
abbrev pub rests_at : ℕ → List AnyBox → List Rest
rests_at from pieces = map (λ (piece : AnyBox). record { piece = piece; from = from }) pieces

-- Of the piece without those regions a real point is left.
abbrev pub is_left : List AnyBox → Rest → Bool
is_left others rest = leaves (rest.piece ∷ []) (drop rest.from others)

-- Of some of the pieces one is.
abbrev pub some_left : List AnyBox → List Rest → Bool
some_left others rests = list_any (is_left others) rests

-- So many pieces are looked at for a piece, where each is cut by the next region that meets it, and what is left of it then.
unfoldable pub looks : List AnyBox → AnyBox → ℕ
looks [] piece = 1
looks (region ∷ regions) piece =
    if meets piece region then 1 + sum_by (looks regions) (box_minus piece region) else looks regions piece

-- So many for one of these pieces, and for all.
abbrev pub work_of : List AnyBox → Rest → ℕ
work_of others rest = looks (drop rest.from others) rest.piece

abbrev pub work : List AnyBox → List Rest → ℕ
work others rests = sum_by (work_of others) rests
