use Rattle.sel_region.proofs.CutPoints.{hits-cut_all, hits-cut_each}
use Rattle.sel_region.proofs.laws.cut_points.Goals as goal

pub returns-clause-each : goal.returns-clause-each
returns-clause-each g c = hits-cut_each g.met.R.Region.laws

pub returns-clause-all : goal.returns-clause-all
returns-clause-all g c = hits-cut_all g.met.R.Region.laws
