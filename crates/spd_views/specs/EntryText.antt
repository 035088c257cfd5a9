-- The text of an entry of a decorrelated policy (RFC 4301 Appendix B).
use Rattle.std.specs.Prelude.{ℕ, List, ◌++◌, codes}
use Rattle.sel_box.specs.declared.packet.Direction.{Direction}
use Rattle.spd_cut.specs.declared.entry.Entry.{Entry}
use Rattle.spd_text.specs.DirectionText.{direction_text}
use Rattle.spd_text.specs.JudgementText.{verdict_text}
use Rattle.spd_text.specs.RangeText.{box_text}

-- The direction, the box, and the verdict with the name of the policy line that it comes from.
abbrev pub entry_text : Direction → Entry → List ℕ → List ℕ
entry_text direction entry name =
    direction_text direction ++ (codes " " ++ (box_text entry.region ++ (codes " "
    ++ verdict_text (record { name = name; judgement = entry.judgement }))))
