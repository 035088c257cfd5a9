use Rattle.std.proofs.Common.{refl}
use Rattle.audit_top.proofs.error_line.line_of_limit.Goals as goal

pub returns-in-None : goal.returns-in-None
returns-in-None c =
    rw (c.in-None.is, c.joined.ensures, c.format-word.ensures.text, c.direction_word-direction.ensures.text, c.format-line.ensures.text) refl

pub returns-in-Some : goal.returns-in-Some
returns-in-Some c =
    rw (
      c.in-Some.is,
      c.joined-in-Some.ensures,
      c.format-word.ensures.text,
      c.direction_word-direction.ensures.text,
      c.format-line.ensures.text,
      c.format.ensures.text,
    ) refl
