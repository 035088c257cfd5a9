use Rattle.std.proofs.Common.{refl}
use Rattle.spd_file.proofs.Lines.{policy_lines-few, policy_lines-many}
use Rattle.spd_file.proofs.policy.read_values.Goals as goal

pub returns-then-values-clause-fault : goal.returns-then-values-clause-fault
returns-then-values-clause-fault c =
    rw (policy_lines-many c.args.values.now c.if-values.true) (λ _. refl)

pub returns-clause-lines : goal.returns-clause-lines
returns-clause-lines c =
    rw (policy_lines-few c.args.values.now c.if-values.false) c.read_each.ensures.lines

pub returns-clause-fault : goal.returns-clause-fault
returns-clause-fault c =
    rw (policy_lines-few c.args.values.now c.if-values.false) c.read_each.ensures.fault
