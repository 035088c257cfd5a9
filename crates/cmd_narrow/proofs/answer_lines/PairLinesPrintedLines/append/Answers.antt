use Rattle.std.proofs.Common.{◌≤◌, arith, string_bytes}
use Rattle.cmd_narrow.proofs.Printed.{OnOk-notice}
use Rattle.cmd_narrow.proofs.answer_lines.PairLinesPrintedLines.append.Goals as goal

pub returns-in_default : goal.returns-in_default
returns-in_default c =
    let pair = c.args.self.now in
    let behind : 3 ≤ c.args.index = omega arith in
    OnOk-notice c.append_words-in_default.result pair.name (string_bytes pair.tsi) (string_bytes pair.tsr) pair.additional c.args.index _ _
    c.requires behind c.append_words-in_default.ensures
