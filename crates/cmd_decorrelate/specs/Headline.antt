-- What `decorrelate` writes, said of packets, without a cut or a loop.
use Rattle.std.specs.Prelude.{◌≡◌, ℕ, List, Option, Ok}
use Rattle.pair_io.specs.Gains.{Gains}
use Rattle.sel_box.specs.declared.packet.Direction.TheVariants.{Outbound, Inbound}
use Rattle.spd_cut.specs.declared.entry.Entry.{Entry}
use Rattle.spd_cut.specs.StandsFor.{StandsFor}
use Rattle.spd_file.specs.Policy.{policy_meaning}
use Rattle.spd_line.specs.declared.line.LineParts.{LineParts}
use Rattle.audit_frame.specs.Answer.{text_of}
use Rattle.cmd_decorrelate.specs.Decorrelate.{views_lines}

-- The text gained the three views of two lists of entries, one for each direction, each of which stands for the
-- policy's lines there: no two entries have a point in common, each packet lies in exactly one, and that one's line
-- and judgement are those of the first line that selects the packet.
pub record IsDecorrelated (content : List ℕ) (before now : Option (List ℕ)) : Type 0 where
  pub lines : List LineParts
  pub policy : policy_meaning content ≡ Ok lines
  pub outbound : List Entry
  pub inbound : List Entry
  pub stands_out : StandsFor outbound Outbound lines
  pub stands_in : StandsFor inbound Inbound lines
  pub written : Gains before now (text_of (views_lines lines outbound inbound))
