use Rattle.std.proofs.Common.{◌≡◌, ◌++◌, drop, map}
use Rattle.audit_frame.specs.Answer.{text_of}
use Rattle.audit_top.proofs.error_line.joined.Given as goal

abbrev pub invariant-loop-part : goal.invariant-loop-part
invariant-loop-part l =
    l.line.bytes ++ text_of (map (λ part. part.now) (drop l.part-index l.parts)) ≡ text_of (map (λ part. part.now) l.parts)
