use Rattle.std.proofs.Common.{◌<◌, arith}
use Rattle.cmd_decorrelate.proofs.Views.{line_behind, linked_behind}
use Rattle.cmd_decorrelate.proofs.view_lines.ViewLinesPrintedLines.append.Goals as goal

pub append_entry-requires-clause-first : goal.append_entry-requires-clause-first
append_entry-requires-clause-first c =
    let behind : 0 < c.args.index = omega arith in
    (linked_behind c.args.self.now.lines.now c.args.self.now.listings c.args.index c.index-as_slice-index.result behind c.requires
    (rw c.as_slice.ensures at c.index-as_slice-index.is) c.args.self.now.linked).0

pub append_entry-requires-clause-last : goal.append_entry-requires-clause-last
append_entry-requires-clause-last c =
    let behind : 0 < c.args.index = omega arith in
    (linked_behind c.args.self.now.lines.now c.args.self.now.listings c.args.index c.index-as_slice-index.result behind c.requires
    (rw c.as_slice.ensures at c.index-as_slice-index.is) c.args.self.now.linked).1

pub returns-in_default : goal.returns-in_default
returns-in_default c =
    let behind : 0 < c.args.index = omega arith in
    rw (line_behind c.args.self.now.lines.now _ c.args.self.now.listings c.args.index c.index-as_slice-index.result behind c.requires
    (rw c.as_slice.ensures at c.index-as_slice-index.is)) c.append_entry.ensures
