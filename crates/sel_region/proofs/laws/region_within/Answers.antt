use Rattle.sel_region.proofs.Regions.{within-by_meet, within-by_minus}
use Rattle.sel_region.proofs.laws.region_within.Goals as goal

pub returns-clause-meet : goal.returns-clause-meet
returns-clause-meet g c = within-by_meet g.met.R.Region.laws

pub returns-clause-minus : goal.returns-clause-minus
returns-clause-minus g c = within-by_minus g.met.R.Region.laws
