-- The word of a direction (RFC 4301 section 4.4.1).
use Rattle.std.specs.Prelude.{ℕ, List, codes}
use Rattle.sel_box.specs.declared.packet.Direction.{Direction}
use Rattle.sel_box.specs.declared.packet.Direction.TheVariants.{Outbound, Inbound}

-- Outbound is `out`, inbound `in`.
abbrev pub direction_text : Direction → List ℕ
direction_text Outbound = codes "out"
direction_text Inbound = codes "in"
