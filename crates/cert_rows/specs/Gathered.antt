-- The boxes of a policy, line by line (RFC 4301 section 4.4.1).
use Rattle.std.specs.Prelude.{◌≡◌, ℕ, ◌+◌, List, [], ◌∷◌, ◌++◌, map}
use Rattle.sel_box.specs.declared.any_box.AnyBox.{AnyBox}
use Rattle.sel_box.specs.declared.packet.Direction.{Direction}
use Rattle.sel_box.specs.declared.packet.Direction.TheVariants.{Outbound, Inbound}
use Rattle.spd_line.specs.declared.line.LineParts.{LineParts}
use Rattle.spd_line.specs.declared.line_boxes.LineBox.{LineBox}
use Rattle.cert_text.specs.Rows.{Row, rows_of, turned_box}
use Rattle.cert_rows.specs.declared.gateway.Gateway.{Gateway}
use Rattle.cert_rows.specs.declared.gateway.Gateway.TheVariants.{A, B}
use Rattle.cert_rows.specs.declared.boxes.Mark.{Mark}

-- The direction in which a gateway sees the packets, and a box of its policy as A sees it, from which they go out.
abbrev pub direction_of : Gateway → Direction
direction_of A = Outbound
direction_of B = Inbound

abbrev pub box_seen : Gateway → LineBox → LineBox
box_seen A box = box
box_seen B box = turned_box box

-- The rows of a gateway's policy, as A sees them.
abbrev pub row_seen : Gateway → Row → Row
row_seen gateway row = map (box_seen gateway) row

abbrev pub rows_at : Gateway → List LineParts → List Row
rows_at gateway lines = map (row_seen gateway) (rows_of (direction_of gateway) lines)

-- The regions of a row, and its marks where it is that of the line at a place.
abbrev pub regions_in : Row → List AnyBox
regions_in row = map (λ (box : LineBox). box.region) row

abbrev pub marks_in : ℕ → Row → List Mark
marks_in place row = map (λ (box : LineBox). record { line = place; judgement = box.judgement }) row

-- The same of some rows, one after another, of which the first has this place.
abbrev pub regions_of : List Row → List AnyBox
regions_of [] = []
regions_of (row ∷ rows) = regions_in row ++ regions_of rows

abbrev pub marks_of : ℕ → List Row → List Mark
marks_of place [] = []
marks_of place (row ∷ rows) = marks_in place row ++ marks_of (place + 1) rows

-- What is gathered is the boxes of these rows.
pub record AreGathered (rows : List Row) (regions : List AnyBox) (marks : List Mark) : Type 0 where
  pub regions_are : regions ≡ regions_of rows
  pub marks_are : marks ≡ marks_of 1 rows
