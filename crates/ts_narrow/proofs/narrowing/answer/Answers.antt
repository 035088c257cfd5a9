use Rattle.std.proofs.Common.{List, ap}
use Rattle.spd_cut.specs.declared.entry.Entry.{Entry}
use Rattle.ts_narrow.specs.Narrowing.{narrowing}
use Rattle.ts_narrow.proofs.Answering.{if_ok_then}
use Rattle.ts_narrow.proofs.narrowing.answer.Goals as goal

pub returns : goal.returns
returns c =
    if_ok_then c.answer_by.result _ _
    (ap (λ (entries : List Entry). narrowing c.args.outbound.now entries c.args.tsi.now c.args.tsr.now) c.in_ok-inbound.ensures)
    c.answer_by.ensures
