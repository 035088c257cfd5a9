-- How far the cutting of a policy is, and what it comes to.
use Rattle.std.specs.Prelude.{◌≡◌, ℕ, Bool, true, List, ◌++◌, length, map, Option}
use Rattle.sel_box.specs.Boxes.{Ranges}
use Rattle.sel_box.specs.declared.any_box.AnyBox.{AnyBox}
use Rattle.spd_cut.specs.declared.entry.Entry.{Entry}
use Rattle.spd_cut.specs.declared.fault.CutFault.{CutFault}
use Rattle.spd_cut.specs.Entries.{entries_after}
use Rattle.spd_cut.specs.Fault.{IsCutFault}
use Rattle.spd_cut.specs.Steps.{first_over, steps_after}

-- The regions of the boxes so far, and the entries that they gave.
pub record Cut : Type 0 where
  pub earlier : List AnyBox
  pub entries : List Entry

-- The boxes of both families, of which none meets one of the other.
abbrev pub of_both : List Ranges → List Ranges → List AnyBox
of_both four six = map AnyBox.Four four ++ map AnyBox.Six six

-- All entries, and the line of the first step behind what is cut so far that passes the limit.
pub record WholeCut : Type 0 where
  pub entries : List Entry
  pub over : Option ℕ

-- What comes of it with some boxes more.
abbrev pub whole_cut : ℕ → Cut → List Entry → WholeCut
whole_cut limit cut boxes = record {
  entries = cut.entries ++ entries_after cut.earlier boxes;
  over = first_over limit (steps_after cut.earlier (length cut.entries) boxes);
}

-- These boxes were cut within the limit: whatever comes after them, the same comes of all.
abbrev pub Continues : ℕ → Cut → List Entry → Cut → Type 0
Continues limit before boxes after =
    (rest : List Entry) → whole_cut limit after rest ≡ whole_cut limit before (boxes ++ rest)

-- They weren't, for this fault, whatever comes after them.
abbrev pub IsRefused : ℕ → Cut → List Entry → CutFault → Type 0
IsRefused limit before boxes fault =
    (rest : List Entry) → IsCutFault (whole_cut limit before (boxes ++ rest)).over fault

-- The fault of a box of one line: the limit names that line, where a count passes.
abbrev pub IsLineFault : Bool → ℕ → CutFault → Type 0
IsLineFault passed place (CutFault.Limit line) = (line ≡ place) × (passed ≡ true)
IsLineFault passed place CutFault.NoMemory = Unit {0}
