use Rattle.spd_cut.proofs.Families.{added_four, added_six, refused_four, refused_six}
use Rattle.spd_cut.proofs.cutter.Cutter.add.Goals as goal

pub returns-in-Four-clause-cut : goal.returns-in-Four-clause-cut
returns-in-Four-clause-cut c =
    let s = c.self.inside in
    rw (← c.self.view_is)
    (added_four c.args.limit s.four s.six s.entries c.args.uncut.now c.in-Four.region c.add.result c.add.new.self c.add.new.entries
    c.in-Four.is c.add.ensures.earlier c.add.ensures.put c.add.ensures.within)

pub returns-in-Four-clause-fault : goal.returns-in-Four-clause-fault
returns-in-Four-clause-fault c =
    let s = c.self.inside in
    rw (← c.self.view_is)
    (refused_four c.args.limit s.four s.six s.entries c.args.uncut.now c.in-Four.region c.add.result c.add.new.self c.add.new.entries
    c.in-Four.is c.add.ensures.fault)

pub returns-in-Six-clause-cut : goal.returns-in-Six-clause-cut
returns-in-Six-clause-cut c =
    let s = c.self.inside in
    rw (← c.self.view_is)
    (added_six c.args.limit s.four s.six s.entries c.args.uncut.now c.in-Six.region c.add-in-Six.result c.add-in-Six.new.self c.add-in-Six.new.entries
    c.in-Six.is c.add-in-Six.ensures.earlier c.add-in-Six.ensures.put c.add-in-Six.ensures.within)

pub returns-in-Six-clause-fault : goal.returns-in-Six-clause-fault
returns-in-Six-clause-fault c =
    let s = c.self.inside in
    rw (← c.self.view_is)
    (refused_six c.args.limit s.four s.six s.entries c.args.uncut.now c.in-Six.region c.add-in-Six.result c.add-in-Six.new.self c.add-in-Six.new.entries
    c.in-Six.is c.add-in-Six.ensures.fault)
