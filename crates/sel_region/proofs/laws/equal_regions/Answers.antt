use Rattle.sel_region.proofs.Regions.{meet-self, minus-self}
use Rattle.sel_region.proofs.laws.equal_regions.Goals as goal

pub returns-clause-meet : goal.returns-clause-meet
returns-clause-meet g c = meet-self g.met.R.Region.laws

pub returns-clause-minus : goal.returns-clause-minus
returns-clause-minus g c = minus-self g.met.R.Region.laws
