-- What the entries of a policy mean: one look among them, in any order, answers as the ordered lines do (RFC 4301 Appendix B).
use Rattle.std.specs.Prelude.{◌≡◌, ℕ, ◌+◌, ◌≤◌, List, count_by, IsTrue, All, AllPairs}
use Rattle.sel_region.specs.Region.{AreApart}
use Rattle.sel_box.specs.declared.packet.Direction.{Direction}
use Rattle.sel_box.specs.Point.{PointFields, is_point, IsReal}
use Rattle.spd_line.specs.declared.line.LineParts.{LineParts}
use Rattle.spd_line.specs.First.{first_place, verdict_of}
use Rattle.spd_cut.specs.declared.entry.Entry.{Entry}
use Rattle.spd_cut.specs.Entries.{entry_has}

-- Some packet lies in the entry, in one direction or the other.
abbrev pub HasReal : Entry → Type 0
HasReal entry = (x : PointFields) × IsTrue (entry_has entry x) × IsReal x

-- The entries stand for the lines in a direction.
pub record StandsFor (entries : List Entry) (d : Direction) (lines : List LineParts) : Type 0 where
  -- no two entries have a point in common
  pub apart : AllPairs (AreApart entry_has) entries
  -- each has a real point: the values of some packet
  pub real : All HasReal entries
  -- the values of each packet lie in exactly one entry
  pub one : (x : PointFields) → IsReal x → count_by (λ entry. entry_has entry x) entries ≡ 1
  -- an entry is linked to the line that decides each of its points
  pub link : (x : PointFields) → IsTrue (is_point x) →
      All (λ entry. IsTrue (entry_has entry x) → entry.link ≡ first_place d x lines) entries
  -- and is judged as that line judges them
  pub judged : (x : PointFields) → IsTrue (is_point x) →
      All (λ entry. IsTrue (entry_has entry x) → entry.judgement ≡ (verdict_of d x lines).judgement) entries

-- Each entry is linked to one of so many lines, or to `final` behind them.
abbrev pub AreLinked : ℕ → List Entry → Type 0
AreLinked count entries = All (λ (entry : Entry). (1 ≤ entry.link) × (entry.link ≤ count + 1)) entries
