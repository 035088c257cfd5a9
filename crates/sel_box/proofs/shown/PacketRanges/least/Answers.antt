-- The table of classes shows the least, or nothing where there is none.
use Rattle.sel_box.proofs.LeastShown.{rows_show-found, rows_show-none, rows_show-some}
use Rattle.sel_box.proofs.shown.PacketRanges.least.Goals as goal

pub returns-clause-found : goal.returns-clause-found
returns-clause-found c = rows_show-found c.args.self.now c.classes.result.rows c.first_shown.result c.classes.result.parted c.first_shown.ensures

pub returns-clause-none : goal.returns-clause-none
returns-clause-none c = rows_show-none c.args.self.now c.classes.result.rows c.first_shown.result c.classes.result.parted c.first_shown.ensures

pub returns-clause-test : goal.returns-clause-test
returns-clause-test c = rows_show-some c.args.self.now c.classes.result.rows c.first_shown.result c.classes.result.parted c.first_shown.ensures
