-- How many entries and pieces there are at each step of the cutting, of which the limit is asked.
use Rattle.std.specs.Prelude.{ℕ, ◌+◌, Bool, nat_lt, List, [], ◌∷◌, ◌++◌, length, map, Option, Some, None, if◌then◌else◌}
use Rattle.std.specs.List.{list_any}
use Rattle.sel_region.specs.Cutting.{cut_each}
use Rattle.sel_box.specs.declared.any_box.AnyBox.{AnyBox}
use Rattle.sel_box.specs.declared.packet.Direction.{Direction}
use Rattle.sel_box.specs.BoxRegion.{box_minus}
use Rattle.spd_line.specs.declared.line.LineParts.{LineParts}
use Rattle.spd_cut.specs.declared.entry.Entry.{Entry}
use Rattle.spd_cut.specs.Entries.{linked_boxes, new_pieces}

-- A step: how many entries and pieces there are, and the line of the box that is being cut.
pub record Step : Type 0 where
  pub count : ℕ
  pub line : ℕ

-- The counts of one box, with the entries that are done: when it begins, and after each earlier one was taken out of its pieces.
abbrev pub counts_of : {R : Type 0} → (R → R → List R) → ℕ → List R → List R → List ℕ
counts_of minus done pieces [] = (done + length pieces) ∷ []
counts_of minus done pieces (region ∷ earlier) =
    (done + length pieces) ∷ counts_of minus done (cut_each minus pieces region) earlier

-- Some count passes the limit.
abbrev pub passes : ℕ → List ℕ → Bool
passes limit counts = list_any (nat_lt limit) counts

-- Counts of a box of the line.
abbrev pub steps_of_line : ℕ → List ℕ → List Step
steps_of_line line counts = map (λ (count : ℕ). record { count = count; line = line }) counts

-- The steps of some boxes behind earlier ones. Pieces in which no packet can lie count until their box is finished.
abbrev pub steps_after : List AnyBox → ℕ → List Entry → List Step
steps_after earlier done [] = []
steps_after earlier done (box ∷ boxes) =
    steps_of_line box.link (counts_of box_minus done (box.region ∷ []) earlier)
    ++ steps_after (earlier ++ box.region ∷ []) (done + length (new_pieces earlier box.region)) boxes

-- The steps of a policy in a direction.
unfoldable pub steps : Direction → List LineParts → List Step
steps d lines = steps_after [] 0 (linked_boxes d 1 lines)

-- The line of the first step whose count passes the limit.
abbrev pub first_over : ℕ → List Step → Option ℕ
first_over limit [] = None
first_over limit (step ∷ steps) = if nat_lt limit step.count then Some step.line else first_over limit steps
