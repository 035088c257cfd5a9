use Rattle.spd_order.proofs.Repeats.{policy-faultless, policy_fault-policy}
use Rattle.spd_order.proofs.laws.policies_are_taken.Goals as goal

pub returns : goal.returns
returns c = λ lines. (policy_fault-policy lines, policy-faultless lines)
