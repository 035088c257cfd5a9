-- What a compiled policy keeps.
use Rattle.std.specs.Prelude.{◌≡◌, ℕ, List, map, None, Result, Ok, Err}
use Rattle.sel_box.specs.declared.any_box.AnyBox.{AnyBox}
use Rattle.sel_box.specs.declared.packet.Direction.{Direction}
use Rattle.spd_line.specs.declared.line.LineParts.{LineParts}
use Rattle.spd_line.specs.Policy.{IsPolicy}
use Rattle.spd_order.specs.declared.fault.OrderFault.{OrderFault}
use Rattle.spd_cut.specs.declared.entry.Entry.{Entry}
use Rattle.spd_cut.specs.Entries.{entries}
use Rattle.spd_lanes.specs.declared.cut.Cut.{Cut}
use Rattle.spd_lanes.specs.declared.cut.Cuts.{Cuts}
use Rattle.spd_lanes.specs.Policy.{over_in}

-- The regions of some entries, in order.
abbrev pub regions : List Entry → List AnyBox
regions list = map (λ (entry : Entry). entry.region) list

-- The entries are those of the lines in the direction, which keep within the limit, and what is looked at are their regions.
pub record IsCut (limit : ℕ) (d : Direction) (lines : List LineParts) (cut : Cut) : Type 0 where
  pub all : cut.entries ≡ entries d lines
  pub boxes : cut.finder ≡ regions cut.entries
  pub within : over_in limit d lines ≡ None

-- So in both directions.
pub record AreCuts (limit : ℕ) (lines : List LineParts) (cuts : Cuts) : Type 0 where
  pub outbound : IsCut limit Direction.Outbound lines cuts.outbound
  pub inbound : IsCut limit Direction.Inbound lines cuts.inbound

-- The lines are a policy, cut in both directions.
pub record IsCompiled (limit : ℕ) (lines : List LineParts) (cuts : Cuts) : Type 0 where
  pub policy : IsPolicy lines
  pub cut : AreCuts limit lines cuts

-- The lines after an edit that has no fault are a policy, cut in both directions.
abbrev pub IsCutAhead : ℕ → Result (List LineParts) OrderFault → Cuts → Type 0
IsCutAhead limit (Ok lines) cuts = IsCompiled limit lines cuts
IsCutAhead limit (Err fault) cuts = ⊥
