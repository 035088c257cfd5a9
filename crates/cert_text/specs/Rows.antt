-- A policy as a certificate sees it: the boxes of each line, and of `final` behind them (RFC 4301 section 4.4.1).
use Rattle.std.specs.Prelude.{ℕ, zero, suc, Bool, List, [], ◌∷◌, ◌++◌, map, Option, Some, None, if◌then◌else◌}
use Rattle.std.specs.List.{list_any}
use Rattle.std.specs.Option.{is_some}
use Rattle.sel_box.specs.declared.any_box.AnyBox.{AnyBox}
use Rattle.sel_box.specs.declared.packet.Direction.{Direction}
use Rattle.sel_box.specs.declared.packet.Direction.TheVariants.{Outbound, Inbound}
use Rattle.sel_box.specs.BoxRegion.{box_meet, box_within}
use Rattle.sel_box.specs.Swap.{box_swapped}
use Rattle.spd_line.specs.declared.judgement.Judgement.{Judgement}
use Rattle.spd_line.specs.declared.line.LineParts.{LineParts}
use Rattle.spd_line.specs.declared.line_boxes.LineBox.{LineBox}
use Rattle.spd_line.specs.LineBoxes.{final_list, line_boxes}

-- The boxes of a line.
abbrev pub Row : Type 0
Row = List LineBox

-- The rows of a policy in a direction: one for each line, and then that of `final`.
abbrev pub rows_of : Direction → List LineParts → List Row
rows_of d lines = map (line_boxes d) lines ++ final_list ∷ []

-- A box as the other gateway sees it: its sides are exchanged.
abbrev pub turned_box : LineBox → LineBox
turned_box box = record { region = box_swapped box.region; judgement = box.judgement }

abbrev pub turned : Row → Row
turned row = map turned_box row

-- The rows of the gateway A, from which packets go out, and those of B, at which they come in. Both speak of the
-- packets as A sees them, with the source on the local side.
abbrev pub a_rows : List LineParts → List Row
a_rows lines = rows_of Outbound lines

abbrev pub b_rows : List LineParts → List Row
b_rows lines = map turned (rows_of Inbound lines)

-- How a row judges all points of a box: the box lies in one of the row's, the first in which it does.
abbrev pub held : Row → AnyBox → Option Judgement
held [] b = None
held (box ∷ row) b = if box_within b box.region then Some box.judgement else held row b

-- Some box of the row has a point of the box.
abbrev pub met : Row → AnyBox → Bool
met row b = list_any (λ (box : LineBox). is_some (box_meet box.region b)) row

-- How the row at an index judges the box, where no row before it has to do with it.
abbrev pub decided : List Row → ℕ → AnyBox → Option Judgement
decided [] k b = None
decided (row ∷ rows) zero b = held row b
decided (row ∷ rows) (suc k) b = if met row b then None else decided rows k b

-- How the line at a place, counted from 1, decides a box: the box lies in one box of the line, and meets none of an
-- earlier line. Behind the last line stands `final`.
abbrev pub decided_at : List Row → ℕ → AnyBox → Option Judgement
decided_at rows zero b = None
decided_at rows (suc k) b = decided rows k b
