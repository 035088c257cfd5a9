use Rattle.std.proofs.Common.{◌≡◌, ◌+◌, ◌≤◌, length}
use Rattle.sel_text.specs.Lines.{lines_of}
use Rattle.cert_check.specs.inner.Steps.{answer_behind, answer_from, rule_by}
use Rattle.cert_check.proofs.checking.check_nodes.Given as goal

-- The answer by what is left is the answer by the whole text.
abbrev pub invariant-loop-region : goal.invariant-loop-region
invariant-loop-region l = record {
  answer : answer_from (rule_by l.ours l.theirs) l.broken l.done l.todo (lines_of l.rest) ≡ answer_behind (rule_by l.ours l.theirs) (lines_of l.text);
  counted : l.done + length l.rest ≤ length l.text;
}

abbrev pub decreases-loop-region : goal.decreases-loop-region
decreases-loop-region l = length l.rest
