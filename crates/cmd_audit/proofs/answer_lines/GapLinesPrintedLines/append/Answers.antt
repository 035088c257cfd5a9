use Rattle.std.proofs.Common.{◌≡◌, arith}
use Rattle.cmd_audit.proofs.answer_lines.GapLinesPrintedLines.append.Goals as goal

-- The last of four lines.
pub returns-in_default : goal.returns-in_default
returns-in_default c = let last : c.args.index ≡ 3 = omega arith in rw last c.append_verdict-in_default.ensures
