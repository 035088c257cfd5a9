-- What a limit is asked of, each count said by itself.
use Rattle.std.specs.Prelude.{◌≡◌, ℕ, ◌+◌, ◌<◌, ◌≤◌, List, [], ◌∷◌, ◌++◌, length, map}
use Rattle.sel_region.specs.Cutting.{cut_all}
use Rattle.sel_box.specs.BoxRegion.{box_minus}
use Rattle.spd_cut.specs.declared.entry.Entry.{Entry}
use Rattle.spd_cut.specs.Entries.{entries_after}

-- The entries of the boxes that are done, and the pieces that are left of the next one without some of those, `cut`.
abbrev pub count_at : List Entry → List Entry → Entry → ℕ
count_at done cut box =
    length (entries_after [] done)
    + length (cut_all box_minus (box.region ∷ []) (map (λ (earlier : Entry). earlier.region) cut))

-- For each box, and each beginning of the boxes before it, the count is at most the limit.
abbrev pub StaysWithin : ℕ → List Entry → Type 0
StaysWithin limit boxes =
    (cut rest : List Entry) (box : Entry) (after : List Entry) →
    boxes ≡ (cut ++ rest) ++ box ∷ after → count_at (cut ++ rest) cut box ≤ limit

-- The limit is first passed at a box of the line: for some beginning of the boxes before it, and those before it stay within.
pub record PassesAt (limit : ℕ) (boxes : List Entry) (line : ℕ) : Type 0 where
  pub cut : List Entry
  pub rest : List Entry
  pub box : Entry
  pub after : List Entry
  pub parts : boxes ≡ (cut ++ rest) ++ box ∷ after
  pub line_is : line ≡ box.link
  pub before : StaysWithin limit (cut ++ rest)
  pub passed : limit < count_at (cut ++ rest) cut box
