-- One box more is cut.
use Rattle.std.proofs.Common.{◌≡◌, ℕ, zero, suc, ◌+◌, ◌-◌, ◌<◌, Bool, true, false, nat_lt, ◌||◌, cond, List, [], ◌∷◌, ◌++◌, length, map, drop, get_or}
use Rattle.std.proofs.Common.{Option, Some, None, refl, sym, subst, ap, ap₂, ◌∙◌, append_assoc, arith}
use Rattle.std.specs.Prelude.{slice_get}
use Rattle.std.proofs.lemmas.Bool.{false≢true}
use Rattle.std.proofs.lemmas.List.{append-nil, drop_all, length-append, length-map}
use Rattle.sel_box.specs.BoxRegion.{box_minus}
use Rattle.sel_box.specs.declared.packet.Direction.{Direction}
use Rattle.spd_line.specs.declared.line.LineParts.{LineParts}
use Rattle.spd_line.specs.declared.line_boxes.LineBox.{LineBox}
use Rattle.spd_line.specs.First.{line_at}
use Rattle.spd_line.specs.LineBoxes.{final_list, line_boxes}
use Rattle.spd_cut.specs.declared.entry.Entry.{Entry}
use Rattle.spd_cut.specs.declared.fault.CutFault.{CutFault}
use Rattle.spd_cut.specs.Entries.{entries, entries_after, linked, linked_boxes, new_pieces, piece_of}
use Rattle.spd_cut.specs.Fault.{IsCutFault}
use Rattle.spd_cut.specs.Steps.{Step, counts_of, first_over, passes, steps, steps_after, steps_of_line}
use Rattle.spd_cut.specs.inner.Cut.{Continues, Cut, IsLineFault, IsRefused, WholeCut, whole_cut}
use Rattle.sel_region.proofs.Loops.{drop_item}

-- No count of a line passes, so the first step over the limit is a later one.
pub first_over-later : (limit line : ℕ) (counts : List ℕ) (later : List Step) → passes limit counts ≡ false →
    first_over limit (steps_of_line line counts ++ later) ≡ first_over limit later
first_over-later limit line [] later none = refl
first_over-later limit line (count ∷ counts) later none =
    go (nat_lt limit count) (first_over-later limit line counts later) none
  where
    go : (here : Bool) → (passes limit counts ≡ false → first_over limit (steps_of_line line counts ++ later) ≡ first_over limit later) →
        (here || passes limit counts) ≡ false →
        cond here (Some line) (first_over limit (steps_of_line line counts ++ later)) ≡ first_over limit later
    go true rest e = absurd (false≢true (sym e))
    go false rest e = rest e

-- Some count of it does, so the line is the first.
pub first_over-here : (limit line : ℕ) (counts : List ℕ) (later : List Step) → passes limit counts ≡ true →
    first_over limit (steps_of_line line counts ++ later) ≡ Some line
first_over-here limit line [] later some = absurd (false≢true some)
first_over-here limit line (count ∷ counts) later some =
    go (nat_lt limit count) (first_over-here limit line counts later) some
  where
    go : (here : Bool) → (passes limit counts ≡ true → first_over limit (steps_of_line line counts ++ later) ≡ Some line) →
        (here || passes limit counts) ≡ true →
        cond here (Some line) (first_over limit (steps_of_line line counts ++ later)) ≡ Some line
    go true rest e = refl
    go false rest e = rest e

-- The cutting with one box more.
abbrev pub with_box : Cut → Entry → Cut
with_box cut box = record {
  earlier = cut.earlier ++ box.region ∷ [];
  entries = cut.entries ++ map (piece_of box) (new_pieces cut.earlier box.region);
}

pub Continues-with_box : (limit : ℕ) (cut : Cut) (box : Entry) →
    passes limit (counts_of box_minus (length cut.entries) (box.region ∷ []) cut.earlier) ≡ false →
    Continues limit cut (box ∷ []) (with_box cut box)
Continues-with_box limit cut box within rest =
    ap₂ (λ (entries : List Entry) (over : Option ℕ). record { entries = entries; over = over })
    (append_assoc cut.entries (map (piece_of box) (new_pieces cut.earlier box.region)) (entries_after (cut.earlier ++ box.region ∷ []) rest))
    (ap (λ (done : ℕ). first_over limit (steps_after (cut.earlier ++ box.region ∷ []) done rest)) more
    ∙ sym (first_over-later limit box.link (counts_of box_minus (length cut.entries) (box.region ∷ []) cut.earlier)
    (steps_after (cut.earlier ++ box.region ∷ []) (length cut.entries + length (new_pieces cut.earlier box.region)) rest) within))
  where
    more : length (cut.entries ++ map (piece_of box) (new_pieces cut.earlier box.region)) ≡ length cut.entries + length (new_pieces cut.earlier box.region)
    more = length-append cut.entries (map (piece_of box) (new_pieces cut.earlier box.region))
        ∙ ap (λ n. length cut.entries + n) (length-map (new_pieces cut.earlier box.region) (piece_of box))

pub IsRefused-at_box : (limit : ℕ) (cut : Cut) (box : Entry) (fault : CutFault) →
    IsLineFault (passes limit (counts_of box_minus (length cut.entries) (box.region ∷ []) cut.earlier)) box.link fault →
    IsRefused limit cut (box ∷ []) fault
IsRefused-at_box limit cut box (CutFault.Limit line) says rest =
    first_over-here limit box.link (counts_of box_minus (length cut.entries) (box.region ∷ []) cut.earlier)
    (steps_after (cut.earlier ++ box.region ∷ []) (length cut.entries + length (new_pieces cut.earlier box.region)) rest) says.1
    ∙ ap Some (sym says.0)
IsRefused-at_box limit cut box CutFault.NoMemory says rest = tt

-- What is known of one is known of another that is the same.
pub IsCutFault-same : (before after : WholeCut) (fault : CutFault) → before ≡ after → IsCutFault before.over fault → IsCutFault after.over fault
IsCutFault-same before after fault same says = subst (λ (o : WholeCut). IsCutFault o.over fault) same says

-- The box at an index comes first of those that are left from there on.
pub linked_next : (limit : ℕ) (cut : Cut) (place : ℕ) (boxes : List LineBox) (i : ℕ) (box : LineBox) (rest : List Entry) →
    i < length boxes → box ≡ get_or boxes i box →
    whole_cut limit cut (record { region = box.region; judgement = box.judgement; link = place } ∷ (linked place (drop (i + 1) boxes) ++ rest))
    ≡ whole_cut limit cut (linked place (drop i boxes) ++ rest)
linked_next limit cut place boxes i box rest below is =
    sym (drop_item (λ left. whole_cut limit cut (linked place left ++ rest)) boxes i box below is)

-- The line at a place comes first of those from there on.
drop_found : {X : Type 0} (xs : List X) (k : ℕ) (x : X) → slice_get xs k ≡ Some x → drop k xs ≡ x ∷ drop (suc k) xs
drop_found [] k x is = cc
drop_found (y ∷ ys) zero x is = let same : y ≡ x = cc in ap (λ z. z ∷ ys) same
drop_found (y ∷ ys) (suc k) x is = drop_found ys k x is

-- So its boxes come first of theirs.
pub lines_next : (d : Direction) (place : ℕ) (lines : List LineParts) (line : LineParts) → line_at lines place ≡ Some line →
    linked place (line_boxes d line) ++ linked_boxes d (place + 1) (drop (place + 1 - 1) lines) ≡ linked_boxes d place (drop (place - 1) lines)
lines_next d zero lines line is = cc
lines_next d (suc k) lines line is =
    ap₂ (λ (m n : ℕ). linked (suc k) (line_boxes d line) ++ linked_boxes d m (drop n lines)) next here
    ∙ sym (ap (linked_boxes d (suc k)) (ap (λ (n : ℕ). drop n lines) before ∙ drop_found lines k line is))
  where
    next : suc k + 1 ≡ 1 + suc k
    next = omega arith

    here : suc k + 1 - 1 ≡ suc k
    here = omega arith

    before : suc k - 1 ≡ k
    before = omega arith

-- Behind the last line come the boxes of `final`.
pub lines_end : (d : Direction) (place count : ℕ) (lines : List LineParts) → count ≡ length lines → place ≡ count + 1 →
    linked (count + 1) final_list ++ [] ≡ linked_boxes d place (drop (place - 1) lines)
lines_end d place count lines counted is =
    append-nil (linked (count + 1) final_list)
    ∙ ap (λ (n : ℕ). linked n final_list) (sym is)
    ∙ sym (ap (linked_boxes d place) (drop_all (place - 1) lines (omega arith)))

-- Nothing is cut yet.
abbrev pub start : Cut
start = record { earlier = []; entries = [] }

-- Where no box is left, the entries are those of the policy, and no step passes the limit.
pub all_cut : (limit : ℕ) (cut : Cut) (d : Direction) (lines : List LineParts) →
    whole_cut limit cut [] ≡ whole_cut limit start (linked_boxes d 1 lines) →
    (cut.entries ≡ entries d lines) × (first_over limit (steps d lines) ≡ None)
unfolding entries steps
all_cut limit cut d lines same =
    (sym (append-nil cut.entries) ∙ ap (λ (o : WholeCut). o.entries) same, sym (ap (λ (o : WholeCut). o.over) same))

-- Boxes that are refused behind what is cut so far refuse the policy.
pub refused_of_all : (limit : ℕ) (cut : Cut) (d : Direction) (lines : List LineParts) (boxes rest left : List Entry) (fault : CutFault) →
    boxes ++ rest ≡ left → whole_cut limit cut left ≡ whole_cut limit start (linked_boxes d 1 lines) →
    IsRefused limit cut boxes fault → IsCutFault (first_over limit (steps d lines)) fault
unfolding steps
refused_of_all limit cut d lines boxes rest left fault first same says =
    IsCutFault-same (whole_cut limit cut (boxes ++ rest)) (whole_cut limit start (linked_boxes d 1 lines)) fault
    (ap (whole_cut limit cut) first ∙ same) (says rest)
