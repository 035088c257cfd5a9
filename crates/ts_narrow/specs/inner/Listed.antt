-- The entries that meets are looked for in.
use Rattle.std.specs.Prelude.{List, map}
use Rattle.sel_box.specs.declared.any_box.AnyBox.{AnyBox}
use Rattle.spd_cut.specs.declared.entry.Entry.{Entry}

-- The regions of the entries, in order.
abbrev pub regions_in : List Entry → List AnyBox
regions_in entries = map (λ (entry : Entry). entry.region) entries
