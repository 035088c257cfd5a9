use Rattle.std.proofs.Common.{◌≡◌, length}
use Rattle.trace_text.specs.Words.{without_first_spaces}
use Rattle.trace_text.proofs.spaces.without_first_spaces.Given as goal

abbrev pub invariant-loop-rest : goal.invariant-loop-rest
invariant-loop-rest l = without_first_spaces l.rest ≡ without_first_spaces l.text

abbrev pub decreases-loop-rest : goal.decreases-loop-rest
decreases-loop-rest l = length l.rest
