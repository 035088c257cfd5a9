use Rattle.sel_region.proofs.Regions.{meet_comm, meet-within}
use Rattle.sel_region.proofs.laws.region_meet.Goals as goal

pub returns-clause-sides : goal.returns-clause-sides
returns-clause-sides g c = meet_comm g.met.R.Region.laws

pub returns-clause-within : goal.returns-clause-within
returns-clause-within g c = meet-within g.met.R.Region.laws
