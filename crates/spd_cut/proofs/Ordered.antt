-- The entries of a policy come in the order of their lines.
use Rattle.std.proofs.Common.{◌≡◌, ℕ, zero, suc, ◌+◌, ◌≤◌, List, [], ◌∷◌, ◌++◌, map, refl, subst, arith}
use Rattle.std.specs.List.{All}
use Rattle.std.specs.List.Sorted.{IsNonDecreasingBy}
use Rattle.std.proofs.lemmas.List.{append-nil}
use Rattle.std.proofs.lemmas.List.Elements.{All-cons, All-head, All-nil, All-tail}
use Rattle.sel_box.specs.declared.any_box.AnyBox.{AnyBox}
use Rattle.sel_box.specs.declared.packet.Direction.{Direction}
use Rattle.spd_line.specs.declared.line.LineParts.{LineParts}
use Rattle.spd_line.specs.declared.line_boxes.LineBox.{LineBox}
use Rattle.spd_line.specs.LineBoxes.{final_list, line_boxes}
use Rattle.spd_cut.specs.declared.entry.Entry.{Entry}
use Rattle.spd_cut.specs.Entries.{entries, entries_after, linked, linked_boxes, new_pieces, piece_of}

abbrev link_of : Entry → ℕ
link_of e = e.link

-- All links are at least this one.
abbrev AreFrom : ℕ → List Entry → Type 0
AreFrom least es = All (λ (e : Entry). least ≤ e.link) es

abbrev Rise : List Entry → Type 0
Rise es = IsNonDecreasingBy link_of es

rise-cons : (e : Entry) (es : List Entry) → AreFrom e.link es → Rise es → Rise (e ∷ es)
rise-cons e es from rise zero zero d before within = omega arith
rise-cons e es from rise zero (suc j) d before within = from j d (omega arith)
rise-cons e es from rise (suc i) zero d before within = absurd (omega arith)
rise-cons e es from rise (suc i) (suc j) d before within = rise i j d (omega arith) (omega arith)

rise-head : (e : Entry) (es : List Entry) → Rise (e ∷ es) → AreFrom e.link es
rise-head e es rise = λ k d below. rise 0 (suc k) d (omega arith) (omega arith)

rise-tail : (e : Entry) (es : List Entry) → Rise (e ∷ es) → Rise es
rise-tail e es rise = λ i j d before within. rise (suc i) (suc j) d (omega arith) (omega arith)

-- Entries of one link before others.
module _ {X : Type 0} (made : X → Entry) (link : ℕ) (is : (x : X) → (made x).link ≡ link) where
  from-level : (least : ℕ) (xs : List X) (es : List Entry) → least ≤ link → AreFrom least es → AreFrom least (map made xs ++ es)
  from-level least [] es low from = from
  from-level least (x ∷ xs) es low from =
      All-cons (λ (e : Entry). least ≤ e.link) (made x) (map made xs ++ es) (omega (arith, is x)) (from-level least xs es low from)

  rise-level : (xs : List X) (es : List Entry) → AreFrom link es → Rise es → Rise (map made xs ++ es)
  rise-level [] es from rise = rise
  rise-level (x ∷ xs) es from rise =
      rise-cons (made x) (map made xs ++ es) (from-level (made x).link xs es (omega (arith, is x)) (lower es from))
      (rise-level xs es from rise)
    where
      lower : (es : List Entry) → AreFrom link es → AreFrom (made x).link es
      lower es from = λ k d below. let at = from k d below in omega (arith, is x)

-- What is left of boxes has their links.
from-after : (least : ℕ) (earlier : List AnyBox) (boxes : List Entry) → AreFrom least boxes → AreFrom least (entries_after earlier boxes)
from-after least earlier [] from = from
from-after least earlier (box ∷ boxes) from =
    from-level (piece_of box) box.link (λ piece. refl) least (new_pieces earlier box.region) (entries_after (earlier ++ box.region ∷ []) boxes)
    (All-head (λ (e : Entry). least ≤ e.link) box boxes from)
    (from-after least (earlier ++ box.region ∷ []) boxes (All-tail (λ (e : Entry). least ≤ e.link) box boxes from))

rise-after : (earlier : List AnyBox) (boxes : List Entry) → Rise boxes → Rise (entries_after earlier boxes)
rise-after earlier [] rise = rise
rise-after earlier (box ∷ boxes) rise =
    rise-level (piece_of box) box.link (λ piece. refl) (new_pieces earlier box.region) (entries_after (earlier ++ box.region ∷ []) boxes)
    (from-after box.link (earlier ++ box.region ∷ []) boxes (rise-head box boxes rise))
    (rise-after (earlier ++ box.region ∷ []) boxes (rise-tail box boxes rise))

-- The boxes of lines have those of their places.
abbrev at_place : ℕ → LineBox → Entry
at_place place box = record { region = box.region; judgement = box.judgement; link = place }

from-none : (least : ℕ) → AreFrom least []
from-none least = All-nil (λ (e : Entry). least ≤ e.link)

rise-none : Rise []
rise-none i j d before within = absurd (omega arith)

from-boxes : (d : Direction) (least place : ℕ) (lines : List LineParts) → least ≤ place → AreFrom least (linked_boxes d place lines)
from-boxes d least place [] low =
    subst (AreFrom least) (append-nil (linked place final_list))
    (from-level (at_place place) place (λ box. refl) least final_list [] low (from-none least))
from-boxes d least place (line ∷ lines) low =
    from-level (at_place place) place (λ box. refl) least (line_boxes d line) (linked_boxes d (1 + place) lines) low
    (from-boxes d least (1 + place) lines (omega arith))

rise-boxes : (d : Direction) (place : ℕ) (lines : List LineParts) → Rise (linked_boxes d place lines)
rise-boxes d place [] =
    subst Rise (append-nil (linked place final_list))
    (rise-level (at_place place) place (λ box. refl) final_list [] (from-none place) rise-none)
rise-boxes d place (line ∷ lines) =
    rise-level (at_place place) place (λ box. refl) (line_boxes d line) (linked_boxes d (1 + place) lines)
    (from-boxes d place (1 + place) lines (omega arith))
    (rise-boxes d (1 + place) lines)

pub entries-rise : (d : Direction) (lines : List LineParts) → IsNonDecreasingBy (λ (e : Entry). e.link) (entries d lines)
unfolding entries
entries-rise d lines = rise-after [] (linked_boxes d 1 lines) (rise-boxes d 1 lines)
