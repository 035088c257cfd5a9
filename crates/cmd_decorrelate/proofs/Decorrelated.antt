-- A run that ended by the command's own answer wrote entries that stand for the policy.
use Rattle.std.proofs.Common.{◌≡◌, ℕ, List, Option, Some, Ok}
use Rattle.sel_box.specs.declared.packet.Direction.{Direction}
use Rattle.sel_box.specs.declared.packet.Direction.TheVariants.{Outbound, Inbound}
use Rattle.spd_cut.specs.Entries.{entries}
use Rattle.spd_cut.specs.StandsFor.{StandsFor}
use Rattle.spd_line.specs.declared.line.LineParts.{LineParts}
use Rattle.audit_frame.specs.Answer.{Answer, with_limit}
use Rattle.audit_frame.specs.Ends.{Ends}
use Rattle.audit_frame.proofs.Done.{Ends-lines, Ends-under}
use Rattle.cmd_decorrelate.specs.declared.command.Decorrelate.{Decorrelate}
use Rattle.cmd_decorrelate.specs.Decorrelate.{by_lines, decorrelate_answer, views_answer}
use Rattle.cmd_decorrelate.specs.Headline.{IsDecorrelated}

pub IsDecorrelated-answer : ((d : Direction) (lines : List LineParts) → StandsFor (entries d lines) d lines)
    → (told : List ℕ → Option (List ℕ)) (command : Decorrelate) (content : List ℕ) (before now : Option (List ℕ))
    → told command.policy.name ≡ Some content → Ends (decorrelate_answer told command) before now (Ok tt) → IsDecorrelated content before now
IsDecorrelated-answer stands told command content before now is_told ends =
    let word = command.policy.word in
    let limit = command.limit in
    let found = Ends-lines told command.policy content (by_lines word limit) before now tt is_told ends in
    let views : Answer (Unit {0}) = views_answer found.lines (entries Outbound found.lines) (entries Inbound found.lines) in
    let under_out = Ends-under word limit Outbound found.lines (with_limit word limit Inbound found.lines views) before now tt found.ends in
    let done = Ends-under word limit Inbound found.lines views before now tt under_out in
    record {
      lines = found.lines;
      policy = found.policy;
      outbound = entries Outbound found.lines;
      inbound = entries Inbound found.lines;
      stands_out = stands Outbound found.lines;
      stands_in = stands Inbound found.lines;
      written = done.all_lines;
    }
