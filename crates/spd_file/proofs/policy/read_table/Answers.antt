use Rattle.spd_file.proofs.Names.{policy-none}
use Rattle.spd_file.proofs.policy.read_table.Goals as goal

pub returns-in-None-clause-policy : goal.returns-in-None-clause-policy
returns-in-None-clause-policy c = rw c.new.ensures policy-none
