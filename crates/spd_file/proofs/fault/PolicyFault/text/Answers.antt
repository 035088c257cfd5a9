use Rattle.std.proofs.Common.{append_assoc}
use Rattle.spd_file.proofs.fault.PolicyFault.text.Goals as goal

pub returns-in-Line : goal.returns-in-Line
returns-in-Line c =
    rw (c.in-Line.is, c.push_str-in-Line-3.ensures.bytes, c.push_str-in-Line-2.ensures.bytes, c.push_str-in-Line.ensures.bytes, c.push_line.ensures.bytes)
    (simp (append_assoc, c.as_str-in-Line.ensures, c.as_str-in-Line-2.ensures))

pub returns-in-Rule : goal.returns-in-Rule
returns-in-Rule c =
    rw (c.in-Rule.is, c.push_str-in-Rule.ensures.bytes, c.push_line-in-Rule.ensures.bytes)
    (simp (append_assoc, c.as_str-in-Rule.ensures.text))

pub returns-in-DuplicateName : goal.returns-in-DuplicateName
returns-in-DuplicateName c =
    rw (c.in-DuplicateName.is, c.push_str-in-DuplicateName.ensures.bytes, c.push_line-in-DuplicateName.ensures.bytes)
    (simp append_assoc)
