-- The entries of a policy without overlaps, and the order in which they come (RFC 4301 Appendix B).
use Rattle.std.specs.Prelude.{ℕ, ◌+◌, Bool, List, [], ◌∷◌, ◌++◌, map, filter}
use Rattle.sel_box.specs.declared.any_box.AnyBox.{AnyBox}
use Rattle.sel_box.specs.declared.packet.Direction.{Direction}
use Rattle.sel_region.specs.Cutting.{cut_all}
use Rattle.sel_box.specs.BoxRegion.{box_minus}
use Rattle.sel_box.specs.Boxes.{box_has}
use Rattle.sel_box.specs.Point.{PointFields}
use Rattle.sel_box.specs.SomePoint.{has_real_point}
use Rattle.spd_line.specs.declared.line.LineParts.{LineParts}
use Rattle.spd_line.specs.declared.line_boxes.LineBox.{LineBox}
use Rattle.spd_line.specs.LineBoxes.{final_list, line_boxes}
use Rattle.spd_cut.specs.declared.entry.Entry.{Entry}

-- An entry has a point where its region has it.
abbrev pub entry_has : Entry → PointFields → Bool
entry_has entry x = box_has entry.region x

-- Boxes of the line at a place, each with that place.
abbrev pub linked : ℕ → List LineBox → List Entry
linked place boxes =
    map (λ (box : LineBox). record { region = box.region; judgement = box.judgement; link = place }) boxes

-- The boxes of a direction, uncut: those of the line at the place, of the lines after it, and of `final` behind them all.
abbrev pub linked_boxes : Direction → ℕ → List LineParts → List Entry
linked_boxes d place [] = linked place final_list
linked_boxes d place (line ∷ lines) = linked place (line_boxes d line) ++ linked_boxes d (1 + place) lines

-- A piece of a box is judged as the box is, and belongs to its line.
abbrev pub piece_of : Entry → AnyBox → Entry
piece_of box piece = record { region = piece; judgement = box.judgement; link = box.link }

-- What a box adds behind the earlier ones: when all have been taken out of it, the pieces in which no packet can lie are dropped.
abbrev pub new_pieces : List AnyBox → AnyBox → List AnyBox
new_pieces earlier box = filter has_real_point (cut_all box_minus (box ∷ []) earlier)

-- The entries of some boxes behind earlier ones: the pieces that each adds to those before it.
abbrev pub entries_after : List AnyBox → List Entry → List Entry
entries_after earlier [] = []
entries_after earlier (box ∷ boxes) =
    map (piece_of box) (new_pieces earlier box.region) ++ entries_after (earlier ++ box.region ∷ []) boxes

-- The entries of a policy in a direction.
unfoldable pub entries : Direction → List LineParts → List Entry
entries d lines = entries_after [] (linked_boxes d 1 lines)
