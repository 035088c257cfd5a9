-- The table of classes: rows of neighbouring protocols whose packets show the same fields.
use Rattle.std.specs.Prelude.{◌≡◌, ℕ, ◌+◌, ◌-◌, Bool, true, false, ◌==◌, ◌&&◌, ◌||◌, nat_le, List, [], ◌∷◌, if◌then◌else◌}
use Rattle.std.specs.List.{All, list_all, range_with_len}
use Rattle.sel_region.specs.Region.{hits, one_if}
use Rattle.sel_box.specs.declared.class.ClassRow.{ClassRow}
use Rattle.sel_box.specs.declared.class.Shape.{Shape}
use Rattle.sel_box.specs.declared.class.Shape.TheVariants.{NoField, OneField, TwoPorts}
use Rattle.sel_box.specs.Class.{opaque_protocol, opaque_field, has_two_ports, has_one_field, greatest_field, fields_fit}

-- What the packets of a protocol show, and the greatest number that a field has, 0 where none has one.
abbrev pub shape_of : ℕ → Shape
shape_of protocol =
    if has_two_ports protocol then TwoPorts else if has_one_field protocol then OneField else NoField

abbrev pub top_of : ℕ → ℕ
top_of protocol =
    if has_two_ports protocol then 65535 else if has_one_field protocol then greatest_field protocol else 0

-- Two shapes are the same.
abbrev pub same_shape : Shape → Shape → Bool
same_shape NoField NoField = true
same_shape OneField OneField = true
same_shape TwoPorts TwoPorts = true
same_shape _ _ = false

-- Fields of this shape, source first, up to this number: two numbers, one on the source's side, or none.
abbrev pub shape_allows : Shape → ℕ → ℕ → ℕ → Bool
shape_allows NoField top source destination = (source == opaque_field) && (destination == opaque_field)
shape_allows OneField top source destination =
    (nat_le source top || (source == opaque_field)) && (destination == opaque_field)
shape_allows TwoPorts top source destination =
    (nat_le source top && nat_le destination top) || ((source == opaque_field) && (destination == opaque_field))

-- The row has the protocol.
abbrev pub row_has : ClassRow → ℕ → Bool
row_has row protocol = nat_le row.first protocol && nat_le protocol row.last

-- The row says what the packets of the protocol show.
abbrev pub row_tells : ClassRow → ℕ → Bool
row_tells row protocol = same_shape row.shape (shape_of protocol) && (row.top == top_of protocol)

-- The row says what the packets of each of its protocols show.
unfoldable pub row_is_right : ClassRow → Bool
row_is_right row = list_all (row_tells row) (range_with_len row.first (row.last + 1 - row.first))

-- The rows follow one another, the first from this protocol on and the last up to 256: no gap, no overlap.
unfoldable pub rows_follow : ℕ → List ClassRow → Bool
rows_follow next [] = next == opaque_protocol + 1
rows_follow next (row ∷ rest) = (row.first == next) && nat_le row.first row.last && rows_follow (row.last + 1) rest

-- The rows partition the protocols from 0 to 256, and each is right.
unfoldable pub are_classes : List ClassRow → Bool
are_classes rows = rows_follow 0 rows && list_all row_is_right rows

-- What the row says holds of each of its protocols: their shape, their greatest number, and the fields that
-- their packets can show.
pub record ShowsItsProtocols (row : ClassRow) : Type 0 where
  pub shape : (protocol : ℕ) → row_has row protocol ≡ true → row.shape ≡ shape_of protocol
  pub top : (protocol : ℕ) → row_has row protocol ≡ true → row.top ≡ top_of protocol
  pub fields : (protocol source destination : ℕ) → row_has row protocol ≡ true →
      shape_allows row.shape row.top source destination ≡ fields_fit protocol source destination

-- The rows are the classes of protocols: each number from 0 to 256 is in exactly one row, no other is in
-- any, and each row is right.
pub record AreClasses (rows : List ClassRow) : Type 0 where
  pub parted : (protocol : ℕ) → hits row_has rows protocol ≡ one_if (nat_le protocol opaque_protocol)
  pub shown : All ShowsItsProtocols rows

-- The rows: first and last protocol, what their packets show, and the greatest number of a field.
unfoldable pub class_rows : List ClassRow
class_rows =
    let protocols : ℕ → ℕ → Shape → ℕ → ClassRow =
    λ first last shape top. record { first = first; last = last; shape = shape; top = top } in
    protocols 0 0 NoField 0
    ∷ protocols 1 1 OneField 65535  -- ICMP
    ∷ protocols 2 5 NoField 0
    ∷ protocols 6 6 TwoPorts 65535  -- TCP
    ∷ protocols 7 16 NoField 0
    ∷ protocols 17 17 TwoPorts 65535  -- UDP
    ∷ protocols 18 32 NoField 0
    ∷ protocols 33 33 TwoPorts 65535  -- DCCP
    ∷ protocols 34 57 NoField 0
    ∷ protocols 58 58 OneField 65535  -- ICMPv6
    ∷ protocols 59 131 NoField 0
    ∷ protocols 132 132 TwoPorts 65535  -- SCTP
    ∷ protocols 133 134 NoField 0
    ∷ protocols 135 135 OneField 255  -- Mobility Header
    ∷ protocols 136 136 TwoPorts 65535  -- UDP-Lite
    ∷ protocols 137 255 NoField 0
    ∷ protocols 256 256 NoField 0  -- OPAQUE
    ∷ []
