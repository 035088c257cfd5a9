use Rattle.spd_file.proofs.FewLines.{policy_meaning-few}
use Rattle.spd_file.proofs.laws.policies_have_few_lines.Goals as goal

pub returns : goal.returns
returns c = policy_meaning-few
