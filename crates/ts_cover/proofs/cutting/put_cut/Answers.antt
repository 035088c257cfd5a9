use Rattle.std.proofs.Common.{sym}
use Rattle.ts_cover.proofs.CutSides.{part_of-is}
use Rattle.ts_cover.proofs.cutting.put_cut.Goals as goal

pub spell-requires-clause-span : goal.spell-requires-clause-span
spell-requires-clause-span c =
    (part_of-is c.args.side.now c.args.selector.now c.in-Some.part c.requires.selector c.requires.writable (sym c.in-Some.ensures)).0

pub spell-requires-clause-writable : goal.spell-requires-clause-writable
spell-requires-clause-writable c =
    (part_of-is c.args.side.now c.args.selector.now c.in-Some.part c.requires.selector c.requires.writable (sym c.in-Some.ensures)).1
