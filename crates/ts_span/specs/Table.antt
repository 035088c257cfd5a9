-- How a range of fields is written as ports: a table of ranges, by their least and their greatest field.
use Rattle.std.specs.Prelude.{ℕ, ◌*◌, Bool, true, ◌&&◌, not, nat_le, min, List, [], ◌∷◌, if◌then◌else◌}
use Rattle.ts_span.specs.declared.table.FieldRow.{FieldRow}
use Rattle.ts_span.specs.declared.table.RowProtocols.{RowProtocols}
use Rattle.ts_span.specs.declared.table.RowProtocols.TheVariants.{AnyProtocol, NotMobility, Mobility}
use Rattle.ts_span.specs.declared.table.Spelling.{Spelling}
use Rattle.ts_span.specs.declared.table.Spelling.TheVariants.{Nothing, All, Opaque, Halves, Numbers, NumbersAndOpaque, Types, TypesAndOpaque}
use Rattle.ts_span.specs.Span.{lies_in}

-- The ports that a range of fields is written as: none, or one or two pairs.
abbrev pub ports_of : Spelling → ℕ × ℕ → List (ℕ × ℕ)
ports_of Nothing fields = []
ports_of All fields = (0, 65535) ∷ []
ports_of Opaque fields = (65535, 0) ∷ []
ports_of Halves fields = (0, 32767) ∷ (32768, 65535) ∷ []
ports_of Numbers fields = fields ∷ []
ports_of NumbersAndOpaque fields = (fields.0, 65535) ∷ (65535, 0) ∷ []
ports_of Types fields = (256 * fields.0, 256 * min fields.1 255) ∷ []
ports_of TypesAndOpaque fields = (256 * fields.0, 65280) ∷ (65535, 0) ∷ []

-- The row is of the Mobility Header, of every other protocol, or of all.
abbrev pub suits : RowProtocols → Bool → Bool
suits AnyProtocol mobility = true
suits NotMobility mobility = not mobility
suits Mobility mobility = mobility

-- The row has the range of fields.
abbrev pub row_has : Bool → ℕ × ℕ → FieldRow → Bool
row_has mobility fields row =
    suits row.protocols mobility && (lies_in row.lows fields.0 && lies_in row.highs fields.1)

-- The ports by the first row that has the range.
abbrev pub ports_by : Bool → ℕ × ℕ → List FieldRow → List (ℕ × ℕ)
ports_by mobility fields [] = []
ports_by mobility fields (row ∷ rows) =
    if row_has mobility fields row then ports_of row.spelling fields else ports_by mobility fields rows

-- The fields that are written as they are fit a port, and types fit a byte.
abbrev pub fits_ports : Spelling → ℕ × ℕ → Bool
fits_ports Numbers fields = nat_le fields.0 65535 && nat_le fields.1 65535
fits_ports NumbersAndOpaque fields = nat_le fields.0 65535
fits_ports Types fields = nat_le fields.0 255
fits_ports TypesAndOpaque fields = nat_le fields.0 255
fits_ports _ fields = true

-- They do so wherever the row has the range.
abbrev pub row_fits : FieldRow → Bool
row_fits row = fits_ports row.spelling (row.lows.1, row.highs.1)

-- The rows: of which protocols, between which least and which greatest fields, and what is written.
abbrev pub field_rows : List FieldRow
field_rows =
    let row : RowProtocols → ℕ × ℕ → ℕ × ℕ → Spelling → FieldRow =
    λ protocols lows highs spelling. record { protocols = protocols; lows = lows; highs = highs; spelling = spelling } in
    row AnyProtocol (0, 0) (65536, 65536) All
    ∷ row AnyProtocol (65536, 65536) (65536, 65536) Opaque
    ∷ row NotMobility (0, 0) (65535, 65535) Halves
    ∷ row NotMobility (0, 0) (0, 65534) Numbers
    ∷ row NotMobility (1, 65535) (1, 65535) Numbers
    ∷ row NotMobility (1, 65535) (65536, 65536) NumbersAndOpaque
    ∷ row Mobility (0, 255) (0, 65535) Types
    ∷ row Mobility (1, 255) (65536, 65536) TypesAndOpaque
    ∷ row Mobility (256, 65535) (65536, 65536) Opaque
    ∷ row Mobility (256, 65535) (256, 65535) Nothing
    ∷ []
