use Rattle.std.proofs.Common.{sym, ◌∙◌}
use Rattle.ts_cover.specs.RealParts.{says}
use Rattle.ts_narrow.specs.declared.meets.Meet.{Meet}
use Rattle.ts_narrow.specs.Meets.{meets}
use Rattle.ts_narrow.specs.Narrowing.{narrowing}
use Rattle.ts_narrow.proofs.Answering.{chosen-by_meets, if_ok_then}
use Rattle.ts_narrow.proofs.Found.{find-passes}
use Rattle.ts_narrow.proofs.narrowing.answer_by.Goals as goal

pub chosen_answer-requires-clause-said : goal.chosen_answer-requires-clause-said
chosen_answer-requires-clause-said c =
    find-passes (λ (meet : Meet). says _ meet.region) (meets c.args.outbound.now c.args.inbound.now) c.in-Some.said
    (sym c.in_ok-said.ensures ∙ c.in-Some.is)

pub returns-then-left : goal.returns-then-left
unfolding narrowing
returns-then-left c =
    if_ok_then c.chosen_answer.result _ _
    (chosen-by_meets (meets c.args.outbound.now c.args.inbound.now) c.args.tsi.now c.args.tsr.now _ c.in-Some.said
    c.in_ok-cover.ensures.boxes (sym c.in_ok-said.ensures ∙ c.in-Some.is) (sym c.in_ok-left.ensures ∙ c.if-left.true))
    c.chosen_answer.ensures
