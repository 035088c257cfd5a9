use Rattle.std.proofs.Common.{List, rules}
use Rattle.spd_line.specs.declared.line.LineParts.{LineParts}
use Rattle.ts_narrow.specs.Allowed.{StandForBoth}
use Rattle.ts_narrow.specs.Answered.{CoversSome, GivesWhole, HasSelectors, IsWithin, KeepsFirst, RefusesRightly, TellsOfLeft}
use Rattle.ts_narrow.specs.IsNarrowing.{IsNarrowing}
use Rattle.ts_narrow.specs.Meets.{meets}
use Rattle.ts_narrow.specs.Narrowing.{narrowing}
use Rattle.ts_narrow.proofs.AnswerPoints.{narrowing-first, narrowing-is, narrowing-notice, narrowing-some}
use Rattle.ts_narrow.proofs.AnswerPoints.{narrowing-unacceptable, narrowing-whole, narrowing-within}
use Rattle.ts_narrow.proofs.AnswerSelectors.{narrowing-selectors}
use Rattle.ts_narrow.proofs.Answering.{answer-at}
use Rattle.ts_narrow.proofs.narrowing.narrow.Goals as goal

pub returns-clause-unacceptable : goal.returns-clause-unacceptable
returns-clause-unacceptable c =
    let tsi = c.args.proposal.now.tsi in
    let tsr = c.args.proposal.now.tsr in
    answer-at c.answer.result (narrowing c.args.outbound.now c.args.inbound.now tsi tsr)
    (λ answer. (lines : List LineParts) → StandForBoth lines c.args.outbound.now c.args.inbound.now → RefusesRightly lines tsi tsr answer)
    (search rules)
    (λ lines both. narrowing-unacceptable lines c.args.outbound.now c.args.inbound.now both tsi tsr c.requires.tsi c.requires.tsr)

pub returns-clause-whole : goal.returns-clause-whole
returns-clause-whole c =
    let tsi = c.args.proposal.now.tsi in
    let tsr = c.args.proposal.now.tsr in
    answer-at c.answer.result (narrowing c.args.outbound.now c.args.inbound.now tsi tsr)
    (λ answer. (lines : List LineParts) → StandForBoth lines c.args.outbound.now c.args.inbound.now → GivesWhole lines tsi tsr answer)
    (search rules)
    (λ lines both. narrowing-whole lines c.args.outbound.now c.args.inbound.now both tsi tsr c.requires.tsi c.requires.tsr)

pub returns-clause-within : goal.returns-clause-within
returns-clause-within c =
    let tsi = c.args.proposal.now.tsi in
    let tsr = c.args.proposal.now.tsr in
    answer-at c.answer.result (narrowing c.args.outbound.now c.args.inbound.now tsi tsr)
    (λ answer. (lines : List LineParts) → StandForBoth lines c.args.outbound.now c.args.inbound.now → IsWithin lines tsi tsr answer)
    (search rules)
    (λ lines both. narrowing-within lines c.args.outbound.now c.args.inbound.now both tsi tsr c.requires.tsi c.requires.tsr)

pub returns-clause-some : goal.returns-clause-some
returns-clause-some c =
    let tsi = c.args.proposal.now.tsi in
    let tsr = c.args.proposal.now.tsr in
    answer-at c.answer.result (narrowing c.args.outbound.now c.args.inbound.now tsi tsr)
    (λ answer. (lines : List LineParts) → StandForBoth lines c.args.outbound.now c.args.inbound.now → CoversSome answer)
    (search rules)
    (λ lines both. narrowing-some lines c.args.outbound.now c.args.inbound.now both tsi tsr c.requires.tsi c.requires.tsr)

pub returns-clause-first : goal.returns-clause-first
returns-clause-first c =
    let tsi = c.args.proposal.now.tsi in
    let tsr = c.args.proposal.now.tsr in
    answer-at c.answer.result (narrowing c.args.outbound.now c.args.inbound.now tsi tsr)
    (λ answer. (lines : List LineParts) → StandForBoth lines c.args.outbound.now c.args.inbound.now → KeepsFirst lines tsi tsr answer)
    (search rules)
    (λ lines both. narrowing-first lines c.args.outbound.now c.args.inbound.now both tsi tsr c.requires.tsi c.requires.tsr)

pub returns-clause-notice : goal.returns-clause-notice
returns-clause-notice c =
    let tsi = c.args.proposal.now.tsi in
    let tsr = c.args.proposal.now.tsr in
    answer-at c.answer.result (narrowing c.args.outbound.now c.args.inbound.now tsi tsr)
    (λ answer. (lines : List LineParts) → StandForBoth lines c.args.outbound.now c.args.inbound.now → TellsOfLeft lines tsi tsr answer)
    (search rules)
    (λ lines both. narrowing-notice lines c.args.outbound.now c.args.inbound.now both tsi tsr c.requires.tsi c.requires.tsr)

pub returns-clause-is_narrowing : goal.returns-clause-is_narrowing
returns-clause-is_narrowing c =
    let tsi = c.args.proposal.now.tsi in
    let tsr = c.args.proposal.now.tsr in
    let list = meets c.args.outbound.now c.args.inbound.now in
    answer-at c.answer.result (narrowing c.args.outbound.now c.args.inbound.now tsi tsr)
    (λ answer. (lines : List LineParts) → StandForBoth lines c.args.outbound.now c.args.inbound.now →
    IsNarrowing lines list tsi tsr answer)
    (search rules)
    (λ lines both. narrowing-is lines c.args.outbound.now c.args.inbound.now both tsi tsr c.requires.tsi c.requires.tsr)

pub returns-clause-selectors : goal.returns-clause-selectors
returns-clause-selectors c =
    let tsi = c.args.proposal.now.tsi in
    let tsr = c.args.proposal.now.tsr in
    answer-at c.answer.result (narrowing c.args.outbound.now c.args.inbound.now tsi tsr) (HasSelectors tsi tsr)
    (search rules)
    (narrowing-selectors c.args.outbound.now c.args.inbound.now tsi tsr c.requires.tsi c.requires.tsr)
