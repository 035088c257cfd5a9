use Rattle.std.proofs.Common.{◌+◌, ◌++◌, ◌∙◌, drop}
use Rattle.std.proofs.lemmas.Result.{err_from_is_err_and}
use Rattle.spd_cut.specs.Entries.{linked}
use Rattle.spd_cut.proofs.Cuts.{IsCutFault-same, linked_next}
use Rattle.spd_cut.proofs.cutter.Cutter.add_line.Goals as goal

pub loop-part-preserved : goal.loop-part-preserved
loop-part-preserved c = record {
  cut = λ rest. c.in_ok-add.ensures.cut (linked c.args.place (drop (c.loop-part.part-index + 1) c.args.boxes.now) ++ rest)
      ∙ linked_next c.args.limit c.loop-part.self c.args.place c.args.boxes.now c.loop-part.part-index c.part-item.result rest
      c.loop-part-test.true c.part-item.is
      ∙ c.loop-part.invariant.cut rest;
  few = c.in_ok-add.ensures.few;
}

pub returns-in_err-add-clause-fault : goal.returns-in_err-add-clause-fault
returns-in_err-add-clause-fault c =
    let p = err_from_is_err_and c.from_residual.result c.from_residual.ensures.1 in
    rw (p.1, p.2)
    (λ rest. IsCutFault-same _ _ c.in_err-add.field-0.0
    (linked_next c.args.limit c.loop-part.self c.args.place c.args.boxes.now c.loop-part.part-index c.part-item.result rest
    c.loop-part-test.true c.part-item.is
    ∙ c.loop-part.invariant.cut rest)
    (c.in_err-add.ensures.fault (linked c.args.place (drop (c.loop-part.part-index + 1) c.args.boxes.now) ++ rest)))
