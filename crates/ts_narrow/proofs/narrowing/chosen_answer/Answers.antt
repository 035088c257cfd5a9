use Rattle.std.proofs.Common.{Option, sym, subst, ap, ◌∙◌}
use Rattle.sel_box.specs.declared.any_box.AnyBox.{AnyBox}
use Rattle.ts_narrow.specs.declared.choice.Choice.{Choice}
use Rattle.ts_narrow.specs.Meets.{meets}
use Rattle.ts_narrow.specs.Narrowing.{answer_of, choice}
use Rattle.ts_narrow.proofs.Answering.{if_ok_then}
use Rattle.ts_narrow.proofs.Served.{IsWritable, choice-writable}
use Rattle.ts_narrow.proofs.narrowing.chosen_answer.Goals as goal

pub answer_of-requires-clause-writable : goal.answer_of-requires-clause-writable
answer_of-requires-clause-writable c =
    subst IsWritable (sym c.in_ok-chosen.ensures)
    (choice-writable c.args.cover.now c.first_pair-first.result c.args.said.now (meets c.args.outbound.now c.args.inbound.now)
    c.requires.said)

pub returns : goal.returns
returns c =
    let list = meets c.args.outbound.now c.args.inbound.now in
    if_ok_then c.answer_of.result _ _
    (ap (λ (chosen : Choice). answer_of c.args.tsi.now c.args.tsr.now c.args.cover.now list chosen)
    (c.in_ok-chosen.ensures ∙ ap (λ (o : Option AnyBox). choice c.args.cover.now o c.args.said.now list) c.first_pair-first.ensures))
    c.answer_of.ensures
