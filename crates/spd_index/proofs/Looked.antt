-- The lines that stand in a point's parts on both sides are all that can select it.
use Rattle.std.proofs.Common.{◌≡◌, ℕ, ◌+◌, ◌*◌, ◌/◌, ◌%◌, ◌<◌, true, List, bit_and, refl, arith}
use Rattle.std.specs.Int.{bit_at}
use Rattle.std.specs.List.{list_any}
use Rattle.std.proofs.lemmas.Bool.{and_parts}
use Rattle.std.proofs.lemmas.Nat.Bits.{bit_at_and}
use Rattle.sel_box.specs.declared.packet.Direction.{Direction}
use Rattle.sel_box.specs.Point.{PointFields}
use Rattle.spd_line.specs.declared.line.LineParts.{LineParts}
use Rattle.spd_line.specs.Selects.{address_has, selects}
use Rattle.spd_index.specs.declared.rows.Rows.{Rows}
use Rattle.spd_index.specs.declared.sides.Sides.{Sides}
use Rattle.spd_index.specs.inner.Held.{AreSidesOf}
use Rattle.spd_index.specs.inner.Missed.{AreInWord}
use Rattle.spd_index.specs.inner.Rows.{IsPart, StandsIn, word_of}

-- What a line that selects the point has on either side.
pub record HasSides (x : PointFields) (line : LineParts) : Type 0 where
  pub local : list_any (address_has x.family x.local) line.local ≡ true
  pub remote : list_any (address_has x.family x.remote) line.remote ≡ true

HasSides-from_selects : (d : Direction) (x : PointFields) (line : LineParts) → selects d x line ≡ true → HasSides x line
HasSides-from_selects d x line hit =
    let fields = (and_parts _ _ (and_parts _ _ (and_parts _ _ hit).0).0).0 in
    let remote = and_parts _ _ fields in
    let local = and_parts _ _ remote.0 in
    record { local = local.1; remote = remote.1 }

-- A line's bit stands in its word.
bit_of_word : (rows : Rows) (part word bit : ℕ) → bit < 64 → StandsIn rows part (64 * word + bit) → bit_at (word_of rows part word) bit ≡ 1
bit_of_word rows part word bit low stands =
    let of_word : (64 * word + bit) / 64 ≡ word = omega arith in
    let of_bit : (64 * word + bit) % 64 ≡ bit = omega arith in
    rw (of_word, of_bit) at stands

-- A bit of both words is one of their meet.
both_bits : (a b i : ℕ) → bit_at a i ≡ 1 → bit_at b i ≡ 1 → bit_at (bit_and a b) i ≡ 1
both_bits a b i first second = rw (bit_at_and a b i, first, second) refl

pub AreInWord-looked : (d : Direction) (x : PointFields) (sides : Sides) (lines : List LineParts) (local remote word : ℕ) → AreSidesOf x.family sides lines →
    IsPart sides.local.starts.items x.local local → IsPart sides.remote.starts.items x.remote remote →
    AreInWord d x lines word (bit_and (word_of sides.local local word) (word_of sides.remote remote word))
AreInWord-looked d x sides lines local remote word of_lines on_local on_remote = λ bit line low at hit.
    let has = HasSides-from_selects d x line hit in
    both_bits (word_of sides.local local word) (word_of sides.remote remote word) bit
    (bit_of_word sides.local local word bit low (of_lines.local.held (64 * word + bit) line at x.local local has.local on_local))
    (bit_of_word sides.remote remote word bit low (of_lines.remote.held (64 * word + bit) line at x.remote remote has.remote on_remote))
