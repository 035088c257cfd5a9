use Rattle.std.proofs.Common.{List, ap₂, ◌∙◌}
use Rattle.sel_box.specs.declared.any_box.AnyBox.{AnyBox}
use Rattle.ts_cover.specs.RealParts.{leaves}
use Rattle.ts_narrow.proofs.Answering.{if_ok_then}
use Rattle.ts_narrow.proofs.leaving.leaves.Goals as goal

pub returns : goal.returns
returns c =
    if_ok_then c.leaves_some.result _ _
    (ap₂ (λ (boxes others : List AnyBox). leaves boxes others) c.boxes.ensures (c.in_ok-others.ensures ∙ c.in_ok-regions.ensures))
    c.leaves_some.ensures
